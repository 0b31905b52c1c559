-- The normal form has the truth of the formula, in every scale.
use Rattle.std.proofs.Common.{◌≡◌, ℕ, Bool, true, false, sym, refl, ap, ◌∙◌, ap₂}
use Rattle.formula.specs.declared.node.Pair.{Pair}
use Rattle.formula.specs.Normal.{nnf, signed, literal_truth}
use Rattle.formula.specs.Ops.{Ops, Laws}
use Rattle.formula.specs.Tree.{Tree, leaf, not, and, or, then}
use Rattle.formula.specs.Truth.{truth}

module _ {S : Type 0} (o : Ops S) (laws : Laws o) (v : Pair ℕ → S) where
  -- the not of an or is the and of the nots
  dual_or : (x y : S) → o.opposite (o.either x y) ≡ o.both (o.opposite x) (o.opposite y)
  dual_or x y =
      ap o.opposite (ap₂ o.either (sym (laws.twice x)) (sym (laws.twice y)) ∙ sym (laws.dual (o.opposite x) (o.opposite y)))
      ∙ laws.twice (o.both (o.opposite x) (o.opposite y))

  pub nnf_truth : (b : Bool) (t : Tree (Pair ℕ)) → truth o (literal_truth o v) (nnf b t) ≡ signed o b (truth o v t)
  nnf_truth true (leaf a) = refl
  nnf_truth false (leaf a) = refl
  nnf_truth true (not p t) = nnf_truth false t
  nnf_truth false (not p t) = nnf_truth true t ∙ sym (laws.twice (truth o v t))
  nnf_truth true (and p t u) = ap₂ o.both (nnf_truth true t) (nnf_truth true u)
  nnf_truth false (and p t u) = ap₂ o.either (nnf_truth false t) (nnf_truth false u) ∙ sym (laws.dual (truth o v t) (truth o v u))
  nnf_truth true (or p t u) = ap₂ o.either (nnf_truth true t) (nnf_truth true u)
  nnf_truth false (or p t u) = ap₂ o.both (nnf_truth false t) (nnf_truth false u) ∙ sym (dual_or (truth o v t) (truth o v u))
  nnf_truth true (then p t u) = ap₂ o.either (nnf_truth false t) (nnf_truth true u)
  nnf_truth false (then p t u) =
      ap₂ o.both (nnf_truth true t ∙ sym (laws.twice (truth o v t))) (nnf_truth false u)
      ∙ sym (dual_or (o.opposite (truth o v t)) (truth o v u))
