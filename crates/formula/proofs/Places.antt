-- The words of the normal form stand in the line as those of the formula.
use Rattle.std.proofs.Common.{◌≡◌, ℕ, suc, ◌≤◌, Bool, true, false, not as flip, ◌&&◌, ltb, leb, arith}
use Rattle.std.proofs.lemmas.Bool.{and_from, and_parts, leb-true, le-leb, ltb-true, lt-ltb}
use Rattle.formula.specs.declared.literal.Literal.{Literal}
use Rattle.formula.specs.declared.node.Pair.{Pair}
use Rattle.formula.specs.Normal.{nnf, joined, literal_place}
use Rattle.formula.specs.Table.{pair_place}
use Rattle.formula.specs.Tree.{Tree, leaf, not, and, or, then, spans}

-- a place within bounds is within wider ones
inside_wider : (p from to from' to' : ℕ) → from' ≤ from → to ≤ to' → (leb from p && ltb p to) ≡ true → (leb from' p && ltb p to') ≡ true
inside_wider p from to from' to' h g e =
    let b = and_parts (leb from p) (ltb p to) e in
    let l = leb-true from p b.0 in
    let r = ltb-true p to b.1 in
    and_from (leb from' p) (ltb p to') (le-leb from' p (omega arith)) (lt-ltb p to' (omega arith))

module _ {A : Type 0} (place : A → ℕ) where
  -- a word between its parts
  abbrev between : ℕ → ℕ → ℕ → Tree A → Tree A → Bool
  between from to p t u = (leb from p && ltb p to) && (spans place from p t && spans place (suc p) to u)

  between_wider : (p : ℕ) (t u : Tree A) (from to from' to' : ℕ) → from' ≤ from → to ≤ to'
      → (spans place from p t ≡ true → spans place from' p t ≡ true) → (spans place (suc p) to u ≡ true → spans place (suc p) to' u ≡ true)
      → between from to p t u ≡ true → between from' to' p t u ≡ true
  between_wider p t u from to from' to' h g left right e =
      let b = and_parts (leb from p && ltb p to) (spans place from p t && spans place (suc p) to u) e in
      let c = and_parts (spans place from p t) (spans place (suc p) to u) b.1 in
      and_from (leb from' p && ltb p to') (spans place from' p t && spans place (suc p) to' u) (inside_wider p from to from' to' h g b.0)
      (and_from (spans place from' p t) (spans place (suc p) to' u) (left c.0) (right c.1))

  -- words within bounds are within wider ones
  spans_wider : (t : Tree A) (from to from' to' : ℕ) → from' ≤ from → to ≤ to' → spans place from to t ≡ true → spans place from' to' t ≡ true
  spans_wider (leaf a) from to from' to' h g e = inside_wider (place a) from to from' to' h g e
  spans_wider (not p t) from to from' to' h g e =
      let b = and_parts (leb from p && ltb p to) (spans place (suc p) to t) e in
      and_from (leb from' p && ltb p to') (spans place (suc p) to' t) (inside_wider p from to from' to' h g b.0) (spans_wider t (suc p) to (suc p) to' (omega arith) g b.1)
  spans_wider (and p t u) from to from' to' h g e =
      between_wider p t u from to from' to' h g (spans_wider t from p from' p h (omega arith)) (spans_wider u (suc p) to (suc p) to' (omega arith) g) e
  spans_wider (or p t u) from to from' to' h g e =
      between_wider p t u from to from' to' h g (spans_wider t from p from' p h (omega arith)) (spans_wider u (suc p) to (suc p) to' (omega arith) g) e
  spans_wider (then p t u) from to from' to' h g e =
      between_wider p t u from to from' to' h g (spans_wider t from p from' p h (omega arith)) (spans_wider u (suc p) to (suc p) to' (omega arith) g) e

  joined_spans : (s : Bool) (from to p : ℕ) (t u : Tree A) → between from to p t u ≡ true → spans place from to (joined s p t u) ≡ true
  joined_spans true from to p t u e = e
  joined_spans false from to p t u e = e

-- two parts of a formula and their normal forms, around a word
joined_places : (s : Bool) (from to p : ℕ) (t u : Tree (Pair ℕ)) (t' u' : Tree Literal)
    → (spans pair_place from p t ≡ true → spans literal_place from p t' ≡ true)
    → (spans pair_place (suc p) to u ≡ true → spans literal_place (suc p) to u' ≡ true)
    → between pair_place from to p t u ≡ true → spans literal_place from to (joined s p t' u') ≡ true
joined_places s from to p t u t' u' left right e =
    let b = and_parts (leb from p && ltb p to) (spans pair_place from p t && spans pair_place (suc p) to u) e in
    let c = and_parts (spans pair_place from p t) (spans pair_place (suc p) to u) b.1 in
    joined_spans literal_place s from to p t' u'
    (and_from (leb from p && ltb p to) (spans literal_place from p t' && spans literal_place (suc p) to u') b.0
    (and_from (spans literal_place from p t') (spans literal_place (suc p) to u') (left c.0) (right c.1)))

pub nnf_places : (b : Bool) (t : Tree (Pair ℕ)) (from to : ℕ) → spans pair_place from to t ≡ true → spans literal_place from to (nnf b t) ≡ true
nnf_places b (leaf a) from to e = e
nnf_places b (not p t) from to e =
    let c = and_parts (leb from p && ltb p to) (spans pair_place (suc p) to t) e in
    let d = and_parts (leb from p) (ltb p to) c.0 in
    let l = leb-true from p d.0 in
    spans_wider literal_place (nnf (flip b) t) (suc p) to from to (omega arith) (omega arith) (nnf_places (flip b) t (suc p) to c.1)
nnf_places b (and p t u) from to e = joined_places b from to p t u _ _ (nnf_places b t from p) (nnf_places b u (suc p) to) e
nnf_places b (or p t u) from to e = joined_places (flip b) from to p t u _ _ (nnf_places b t from p) (nnf_places b u (suc p) to) e
nnf_places b (then p t u) from to e = joined_places (flip b) from to p t u _ _ (nnf_places (flip b) t from p) (nnf_places b u (suc p) to) e
