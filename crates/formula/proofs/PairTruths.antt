-- The truths of a table's pairs, written one after another.
use Rattle.std.proofs.Common.{◌≡◌, ℕ, ◌+◌, ◌<◌, Bool, false, List, length, get_or, set, sym, ap, ◌∙◌, ⊎_elim, arith}
use Rattle.std.proofs.lemmas.List.{get_or-set_same, get_or-set_other, get_or_default}
use Rattle.std.proofs.lemmas.Bool.{cases_eq}
use Rattle.formula.specs.declared.node.Node.{Node}
use Rattle.formula.specs.declared.node.Node.TheVariants.{Leaf}

module _ {A : Type 0} (v : A → Bool) (ns : List (Node A)) where
  -- below i, a list has the truth of each leaf at the leaf's index
  abbrev pub Upto : List Bool → ℕ → Type 0
  Upto ts i = (k : ℕ) (a : A) → k < i → get_or ns k (Leaf a) ≡ Leaf a → get_or ts k false ≡ v a

  module _ (ts : List Bool) (i : ℕ) (d : Node A) (done : Upto ts i) (h : i < length ns) where
    -- one leaf more
    pub upto_leaf : (p : A) (b : Bool) → i < length ts → get_or ns i d ≡ Leaf p → b ≡ v p → Upto (set ts i b) (i + 1)
    upto_leaf p b room is e k a l s =
        ⊎_elim
        (λ here.
        let r : Leaf p ≡ Leaf a = sym is ∙ get_or_default ns i d (Leaf a) h ∙ ap (λ j. get_or ns j (Leaf a)) (sym here) ∙ s in
        let same : p ≡ a = cc in
        ap (λ j. get_or (set ts i b) j false) here ∙ get_or-set_same ts i b false room ∙ e ∙ ap v same)
        (λ other. get_or-set_other ts i k b false other ∙ done k a (omega arith) s)
        (cases_eq k i)

    -- one word more
    pub upto_word : ((p : A) → get_or ns i d ≡ Leaf p → ⊥) → Upto ts (i + 1)
    upto_word none k a l s =
        ⊎_elim
        (λ here. absurd (none a (get_or_default ns i d (Leaf a) h ∙ ap (λ j. get_or ns j (Leaf a)) (sym here) ∙ s)))
        (λ other. done k a (omega arith) s)
        (cases_eq k i)
