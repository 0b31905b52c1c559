-- The truth of a formula in a scale, from the truths of its atoms. Rests on Tree and Ops.
use Rattle.formula.specs.Ops.{Ops}
use Rattle.formula.specs.Tree.{Tree, leaf, not, and, or, then}

-- An atom has the truth that is given for it; `not`, `and` and `or` are those of the scale; `p then q` is (not p) or q.
abbrev pub truth : {S A : Type 0} → Ops S → (A → S) → Tree A → S
truth o v (leaf a) = v a
truth o v (not p t) = o.opposite (truth o v t)
truth o v (and p t u) = o.both (truth o v t) (truth o v u)
truth o v (or p t u) = o.either (truth o v t) (truth o v u)
truth o v (then p t u) = o.either (o.opposite (truth o v t)) (truth o v u)
