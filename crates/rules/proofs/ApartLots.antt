-- Lots of which no two have the same name.
use Rattle.std.proofs.Common.{◌≡◌, ℕ, zero, suc, ◌<◌, Bool, true, false, not as flip, ◌&&◌, ◌↔◌, List, [], ◌∷◌, ◌++◌, length, Some, refl, sym, ap, ◌∙◌, arith}
use Rattle.std.proofs.lemmas.Bool.{cond-true, cond-false, and_parts, and_from, not-true, not_from_false, leb-true, leb-false, lt-leb, le-leb, both_ways}
use Rattle.std.proofs.lemmas.Option.{cond_some, slice_get_within}
use Rattle.std.specs.List.{slice_get}
use Rattle.grammar.specs.declared.name.Name.{Name}
use Rattle.grammar.proofs.Same.{same_self}
use Rattle.rules.specs.Items.{item}
use Rattle.rules.specs.Numbers.{is_name, lot_of, is_lot, lot_found, apart}
use Rattle.rules.proofs.Numbered.{item_inside}
use Rattle.rules.proofs.LotNumbers.{equal_names, lot_step, lot_other, lot_item}

other_way : (a b : Name) → is_name a b ≡ false → is_name b a ≡ false
other_way a b e = go (is_name b a) refl
  where
    go : (t : Bool) → is_name b a ≡ t → t ≡ false
    go true h = absurd (both_ways (is_name a b) e (ap (λ (x : Name). is_name a x) (equal_names b a h) ∙ same_self a.bytes))
    go false h = refl

-- the first of such lots stands nowhere behind
first_apart : (m : Name) (ms : List Name) → apart (m ∷ ms) ≡ true → (length ms < lot_of m ms) × (apart ms ≡ true)
first_apart m ms a = let p = and_parts (flip (is_lot m ms)) (apart ms) a in (leb-false (lot_of m ms) (length ms) (not-true (is_lot m ms) p.0), p.1)

-- a name that no lot has
pub apart_push : (n : Name) (ls : List Name) → apart ls ≡ true → length ls < lot_of n ls → apart (ls ++ n ∷ []) ≡ true
apart_push n [] a h = refl
apart_push n (m ∷ ms) a h = go (is_name m n) refl (apart_push n ms (first_apart m ms a).1)
  where
    go : (b : Bool) → is_name m n ≡ b → (length ms < lot_of n ms → apart (ms ++ n ∷ []) ≡ true) → (flip (is_lot m (ms ++ n ∷ [])) && apart (ms ++ n ∷ [])) ≡ true
    go true e f = absurd (omega (arith, lot_step n m ms, cond-true _ 1 (suc (lot_of n ms)) e))
    go false e f =
        let p = first_apart m ms a in
        and_from _ _ (not_from_false _ (lt-leb (lot_of m (ms ++ n ∷ [])) (length (ms ++ n ∷ [])) (lot_other m ms n p.0 (other_way m n e))))
        (f (omega (arith, lot_step n m ms, cond-false _ 1 (suc (lot_of n ms)) e)))

-- each lot is found by its name
nth_number : (ls : List Name) (i : ℕ) (n : Name) → apart ls ≡ true → slice_get ls i ≡ Some n → lot_of n ls ≡ suc i
nth_number [] i n a e = absurd (let z : ◌≡◌ {A = ℕ} 0 1 = cc in omega arith)
nth_number (m ∷ ms) zero n a e = let s : m ≡ n = cc in lot_step n m ms ∙ cond-true _ _ _ (ap (λ (x : Name). is_name m x) (sym s) ∙ same_self m.bytes)
nth_number (m ∷ ms) (suc i) n a e =
    let behind = nth_number ms i n (first_apart m ms a).1 e in lot_step n m ms ∙ cond-false _ _ _ (go (is_name m n) refl behind) ∙ ap suc behind
  where
    go : (b : Bool) → is_name m n ≡ b → lot_of n ms ≡ suc i → b ≡ false
    go true s behind = absurd (omega (arith, behind, (first_apart m ms a).0, ap (λ (x : Name). lot_of x ms) (equal_names m n s), slice_get_within ms i n e))
    go false s behind = refl

item_number : (ls : List Name) (k : ℕ) (n : Name) → apart ls ≡ true → item k ls ≡ Some n → lot_of n ls ≡ k
item_number ls zero n a e = absurd (let z : ◌≡◌ {A = ℕ} 0 1 = cc in omega arith)
item_number ls (suc i) n a e = nth_number ls i n a e

-- the number that is found is that of the lot
pub found_only : (n : Name) (ls : List Name) → apart ls ≡ true → (k : ℕ) → (lot_found n ls ≡ Some k) ↔ (item k ls ≡ Some n)
found_only n ls a k = (
  (λ e. let p = cond_some _ _ _ e in ap (λ m. item m ls) (sym p.1) ∙ lot_item n ls (leb-true (lot_of n ls) (length ls) p.0)),
  (λ e. let s = item_number ls k n a e in let i = item_inside k ls n e in cond-true _ _ _ (le-leb (lot_of n ls) (length ls) (omega arith)) ∙ ap Some s),
)
