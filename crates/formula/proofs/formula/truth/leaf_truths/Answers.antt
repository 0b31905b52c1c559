use Rattle.std.proofs.Common.{Bool, false, List, length, get_or, ap, ◌∙◌, arith, length-set}
use Rattle.formula.proofs.PairTruths.{upto_leaf, upto_word}
use Rattle.formula.proofs.formula.truth.leaf_truths.Goals as goal
use Rattle.formula.proofs.formula.truth.leaf_truths.Goals.{in-Leaf, in_default}

pub loop-i-preserved : goal.loop-i-preserved
loop-i-preserved g c =
    let ns = c.args.nodes.now in
    let ts = c.loop-i.truths in
    let i = c.loop-i.i in
    elim c.match-node.branch [
      | in-Leaf w ↦ (
        ap length w.truths-is ∙ length-set ts i w.is_true.result ∙ c.loop-i.invariant.0,
        λ v computes k a l s.
            ap (λ (us : List Bool). get_or us k false) w.truths-is
            ∙ upto_leaf v ns ts i _ (c.loop-i.invariant.1 v computes) (omega arith) w.in-Leaf.pair w.is_true.result (omega (arith, c.loop-i.invariant.0)) w.in-Leaf.is (computes _ _ w.is_true.ensures) k a l s,
      )
      | in_default w ↦ (
        ap length w.truths-is ∙ c.loop-i.invariant.0,
        λ v computes k a l s. ap (λ (us : List Bool). get_or us k false) w.truths-is ∙ upto_word v ns ts i _ (c.loop-i.invariant.1 v computes) (omega arith) w.in_default.not-Leaf k a l s,
      )
    ]

pub returns-clause-truths : goal.returns-clause-truths
returns-clause-truths g c v computes i a l s = c.loop-i.invariant.1 v computes i a (omega arith) s
