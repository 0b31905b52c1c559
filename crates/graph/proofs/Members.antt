-- Lots that stand in a list.
use Rattle.std.proofs.Common.{inl, inr, ◌⊎◌, ⊎_elim, refl, ◌≡◌, ℕ, zero, suc, ◌+◌, ◌<◌, ◌≤◌, Bool, true, false, ◌≢◌, List, [], ◌∷◌, length, ◌==◌, arith, not, ◌&&◌, ◌-◌, ap, ◌∙◌}
use Rattle.std.proofs.lemmas.Bool.{eqb-true, eq-eqb, or_cases, or_left, or_right, false≢true, cond_both}
use Rattle.std.proofs.lemmas.Bool.Decides.{nat_tests}
use Rattle.std.specs.List.{range_with_len}
use Rattle.std.proofs.lemmas.List.Folds.{list_any_at, Any-from_list_any}
use Rattle.std.proofs.lemmas.List.FromFn.{length-range_with_len, get_or-range_with_len}
use Rattle.std.proofs.lemmas.Map.Views.{any-filter_same}
use Rattle.graph.specs.Lots.{Lot, lots, some, has, without, Simple}

-- the lots of a list with one more in front
pub has_first : (x : ℕ) (xs : List ℕ) → has x (x ∷ xs) ≡ true
has_first x xs = or_left (x == x) (has x xs) (eq-eqb x x refl)

pub has_next : (x z : ℕ) (xs : List ℕ) → has z xs ≡ true → has z (x ∷ xs) ≡ true
has_next x z xs = or_right (z == x) (has z xs)

pub has_cases : (x z : ℕ) (xs : List ℕ) → has z (x ∷ xs) ≡ true → (z ≡ x) ⊎ (has z xs ≡ true)
has_cases x z xs h = ⊎_elim (λ p. inl (eqb-true z x p)) inr (or_cases (z == x) (has z xs) h)

-- lots that pass
pub some_from : (n : ℕ) (p : ℕ → Bool) (k : ℕ) → Lot n k → p k ≡ true → some n p ≡ true
some_from n p k l h = list_any_at p (lots n) (k - 1) 0 (omega (arith, length-range_with_len 1 n)) (ap p (get_or-range_with_len 1 n (k - 1) 0 (omega arith) ∙ omega arith) ∙ h)

pub some_is : (n : ℕ) (p : ℕ → Bool) → some n p ≡ true → (k : ℕ) × Lot n k × (p k ≡ true)
some_is n p h =
    let (i, k, l, e, q) = Any-from_list_any p (lots n) h in
    let m = length-range_with_len 1 n in
    let f = get_or-range_with_len 1 n i k (omega arith) in
    (k, omega arith, q)

-- lots of a list without one lot
pub has_of_without : (v y : ℕ) (xs : List ℕ) → has y (without v xs) ≡ (not (v == y) && has y xs)
has_of_without v y xs = any-filter_same (λ x. y == x) (λ x. not (v == x)) (not (v == y)) (λ x e. grind (arith, nat_tests)) xs

pub not_without : (v : ℕ) (xs : List ℕ) → has v (without v xs) ≡ false
not_without v xs = grind (arith, nat_tests, has_of_without v v xs)

pub has_without : (v y : ℕ) (xs : List ℕ) → y ≢ v → has y xs ≡ true → has y (without v xs) ≡ true
has_without v y xs ne h = grind (arith, nat_tests, has_of_without v y xs)

pub without_has : (v y : ℕ) (xs : List ℕ) → has y (without v xs) ≡ true → has y xs ≡ true
without_has v y xs h = grind (arith, nat_tests, has_of_without v y xs)

pub absent : (v z : ℕ) (xs : List ℕ) → has z xs ≡ false → has z (without v xs) ≡ false
absent v z xs h = grind (arith, nat_tests, has_of_without v z xs)

pub without_none : (v : ℕ) (xs : List ℕ) → has v xs ≡ false → without v xs ≡ xs
without_none v [] h = refl
without_none v (x ∷ xs) h = grind (arith, nat_tests, without_none v xs)

pub simple_without : (v : ℕ) (xs : List ℕ) → Simple xs → Simple (without v xs)
simple_without v [] s = tt
simple_without v (x ∷ xs) s = cond_both (not (v == x)) (x ∷ without v xs) (without v xs) Simple
    (λ e. (absent v x xs s.0, simple_without v xs s.1)) (λ e. simple_without v xs s.1)

without_le : (v : ℕ) (xs : List ℕ) → length (without v xs) ≤ length xs
without_le v [] = omega arith
without_le v (x ∷ xs) = grind (arith, nat_tests, without_le v xs)

pub without_lt : (v : ℕ) (xs : List ℕ) → has v xs ≡ true → length (without v xs) < length xs
without_lt v [] h = absurd (false≢true h)
without_lt v (x ∷ xs) h = grind (arith, nat_tests, without_le v xs, without_lt v xs)

-- the lots in rising order are the lots 1 to n
has_counting : (n a x : ℕ) → a ≤ x → x < a + n → has x (range_with_len a n) ≡ true
has_counting zero a x l h = absurd (omega arith)
has_counting (suc n) a x l h = grind (arith, nat_tests, has_counting n (a + 1) x)

pub counting_has : (n a x : ℕ) → has x (range_with_len a n) ≡ true → (a ≤ x) × (x < a + n)
counting_has zero a x h = absurd (false≢true h)
counting_has (suc n) a x h = grind (arith, nat_tests, counting_has n (a + 1) x)

pub lots_have : (n x : ℕ) → Lot n x → has x (lots n) ≡ true
lots_have n x l = has_counting n 1 x l.0 (omega arith)

pub has_lots : (n x : ℕ) → has x (lots n) ≡ true → Lot n x
has_lots n x h = grind (arith, nat_tests, counting_has n 1 x h)
