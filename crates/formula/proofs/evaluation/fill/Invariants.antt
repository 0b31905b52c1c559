use Rattle.std.proofs.Common.{◌≡◌, ◌++◌, take, drop}
use Rattle.formula.specs.Evaluation.{node_truths}
use Rattle.formula.proofs.evaluation.fill.Given as goal

abbrev pub invariant-loop-i : goal.invariant-loop-i
invariant-loop-i g l =
    let s = g.S.Scale in
    l.truths ≡ take l.i (node_truths s.ops s.blank l.table.nodes.now l.leaves) ++ drop l.i l.initial.truths
