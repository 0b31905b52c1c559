-- Whether a rule is kept depends on the numbers of its lots alone.
use Rattle.std.proofs.Common.{◌≡◌, ℕ, Bool, true, eqb, List, Some, ap, ap₂}
use Rattle.std.proofs.lemmas.Bool.{and_parts}
use Rattle.formula.specs.declared.node.Pair.{Pair}
use Rattle.formula.specs.Ops.{Ops}
use Rattle.formula.specs.Scales.{two}
use Rattle.formula.specs.Tree.{Tree, leaf, not, and, or, then, every}
use Rattle.formula.specs.Truth.{truth}
use Rattle.rules.specs.Asking.{tree_at}
use Rattle.rules.specs.Entries.{Entry, all_among}
use Rattle.rules.specs.Keeping.{Numbering, together, kept_in, Agree}
use Rattle.rules.specs.Leaves.{pair_among}
use Rattle.rules.proofs.AmongLots.{pair_parts, item_among}

-- the same truths of all atoms, the same truth
truth_same : {S A : Type 0} (o : Ops S) (v w : A → S) (q : A → Bool) → ((a : A) → q a ≡ true → v a ≡ w a) → (t : Tree A) → every q t ≡ true → truth o v t ≡ truth o w t
truth_same o v w q h (leaf a) e = h a e
truth_same o v w q h (not p t) e = ap o.opposite (truth_same o v w q h t e)
truth_same o v w q h (and p t u) e = let b = and_parts (every q t) (every q u) e in ap₂ o.both (truth_same o v w q h t b.0) (truth_same o v w q h u b.1)
truth_same o v w q h (or p t u) e = let b = and_parts (every q t) (every q u) e in ap₂ o.either (truth_same o v w q h t b.0) (truth_same o v w q h u b.1)
truth_same o v w q h (then p t u) e =
    let b = and_parts (every q t) (every q u) e in ap₂ (λ x y. o.either (o.opposite x) y) (truth_same o v w q h t b.0) (truth_same o v w q h u b.1)

pub kept_same : (n k : ℕ) (es : List Entry) (f g : Numbering) (t : Tree (Pair ℕ)) → all_among n es ≡ true → tree_at k es ≡ Some t → Agree n f g → kept_in f t ≡ kept_in g t
kept_same n k es f g t h e agree =
    truth_same two (together f) (together g) (pair_among n)
    (λ p e. let b = pair_parts n p e in ap₂ eqb (agree p.first b.0 b.1) (agree p.second b.2 b.3)) t (item_among n k es t h e)
