use Rattle.std.proofs.Common.{length, arith}
use Rattle.formula.specs.Parts.{parts}
use Rattle.formula.proofs.PartsFirst.{first_at, below_wider}
use Rattle.formula.proofs.Weighing.{fill_more, fill_all}
use Rattle.formula.proofs.evaluation.fill.Goals as goal

pub weigh-requires : goal.weigh-requires
weigh-requires g c =
    let n = c.index-nodes-i.result in
    below_wider _ (length c.loop-i.truths) (parts n) (omega arith)
    (first_at 0 c.args.table.now.nodes.now c.loop-i.i n c.args.table.now.first (omega arith) c.index-nodes-i.is)

pub loop-i-preserved : goal.loop-i-preserved
loop-i-preserved g c =
    let s = g.S.Scale in
    fill_more s.ops s.blank c.args.table.now.nodes.now c.args.leaves.now c.args.truths.now c.loop-i.truths c.loop-i.i
    c.index-nodes-i.result c.index-leaves-i.result c.weigh.result
    c.args.table.now.first (omega arith) c.requires.known c.requires.room c.index-nodes-i.is c.index-leaves-i.is c.weigh.ensures c.loop-i.invariant

pub returns : goal.returns
returns g c =
    let s = g.S.Scale in
    fill_all s.ops s.blank c.args.table.now.nodes.now c.args.leaves.now c.args.truths.now c.loop-i.truths c.loop-i.i (omega arith) c.loop-i.invariant
