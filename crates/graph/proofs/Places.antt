-- The places of pairs.
use Rattle.std.proofs.lemmas.Bool.Decides.{nat_tests}
use Rattle.std.proofs.Common.{◌≡◌, ℕ, zero, suc, ◌+◌, ◌-◌, ◌*◌, ◌/◌, ◌<◌, ◌≤◌, ◌++◌, length, get_or, sym, refl, ap, ◌∙◌, ⊎_elim, mul_comm, mul-add, arith, lit<, length-append}
use Rattle.std.proofs.Math.Nat.{add-mul-div_right}
use Rattle.std.proofs.lemmas.List.FromFn.{length-map-range_with_len, get_or-map-range_with_len}
use Rattle.std.proofs.lemmas.List.{get_or_append_left, get_or-append-add}
use Rattle.std.proofs.lemmas.Bool.{cases_eq, cases_lt}
use Rattle.graph.specs.PairLaws.{Places, PairsHavePlaces}
use Rattle.graph.specs.Pairs.{IsPair, place, count_of_pairs, pairs, pairs_up_to}

-- one lot more has a pair with each of the others
pub count_more : (k : ℕ) → count_of_pairs (suc k) ≡ count_of_pairs k + k
count_more zero = refl
count_more (suc j) =
    let a : suc (suc j) - 1 ≡ suc j = omega arith in
    let b : suc j - 1 ≡ j = omega arith in
    let e : suc (suc j) ≡ j + 2 = omega arith in
    ap (λ m. suc (suc j) * m / 2) a
    ∙ ap (λ m. m / 2) (mul_comm (suc (suc j)) (suc j) ∙ ap (λ m. suc j * m) e ∙ mul-add (suc j) j 2)
    ∙ add-mul-div_right (suc j * j) (suc j) (lit< tt)
    ∙ ap (λ m. suc j * m / 2 + suc j) (sym b)

pub count_mono : (m n : ℕ) → m ≤ n → count_of_pairs m ≤ count_of_pairs n
count_mono m n h = grind (arith, nat_tests)

-- the pairs with a higher lot come after those of the lots below it
pub place_is : (a b : ℕ) → place a (suc b) ≡ count_of_pairs b + (a - 1)
place_is a b = grind (arith, nat_tests)

place_low : (a b : ℕ) → 1 ≤ a → a < b → place a b < count_of_pairs b
place_low a zero p q = absurd (omega arith)
place_low a (suc b) p q = omega (arith, place_is a b, count_more b)

place_high : (b c d : ℕ) → b < d → count_of_pairs b ≤ place c d
place_high b c zero h = absurd (omega arith)
place_high b c (suc d) h = omega (arith, place_is c d, count_mono b d (omega arith))

below : (n a b : ℕ) → IsPair n a b → place a b < count_of_pairs n
below n a b (p, q, r) = omega (arith, place_low a b p q, count_mono b n r)

by_higher : (n a b c d : ℕ) → IsPair n a b → IsPair n c d → b < d → place a b < place c d
by_higher n a b c d (p, q, r) h l = omega (arith, place_low a b p q, place_high b c d l)

by_lower : (n a b c : ℕ) → IsPair n a b → IsPair n c b → a < c → place a b < place c b
by_lower n a zero c (p, q, r) h l = absurd (omega arith)
by_lower n a (suc b) c (p, q, r) h l = omega (arith, place_is a b, place_is c b)

apart : (n a b c d : ℕ) → IsPair n a b → IsPair n c d → place a b ≡ place c d → (a ≡ c) × (b ≡ d)
apart n a b c d h k e = grind (arith, nat_tests, by_higher n a b c d h k, by_higher n c d a b k h, by_lower n a b c h, by_lower n c d a k)

every : (n i : ℕ) → i < count_of_pairs n → (a b : ℕ) × IsPair n a b × (place a b ≡ i)
every zero i l = absurd (omega arith)
every (suc n) i l = ⊎_elim
    (λ h. let (a, b, (p, q, r), e) = every n i h in (a, b, (p, q, omega arith), e))
    (λ h. let c = count_more n in let a : ℕ = suc (i - count_of_pairs n) in let e = place_is a n in (a, suc n, (omega arith, omega arith, omega arith), omega arith))
    (cases_lt i (count_of_pairs n))

all : (n : ℕ) → length (pairs n) ≡ count_of_pairs n
all zero = refl
all (suc k) = omega (arith, length-append (pairs k) (pairs_up_to k), length-map-range_with_len {X = ℕ × ℕ} (λ a. (a, suc k)) 1 k, all k, count_more k)

listed : (n a b : ℕ) (d : ℕ × ℕ) → IsPair n a b → get_or (pairs n) (place a b) d ≡ (a, b)
listed zero a b d (p, q, r) = absurd (omega arith)
listed (suc k) a b d (p, q, r) = ⊎_elim
    (λ e. let l : a < suc k = omega arith in
    ap (λ z. get_or (pairs (suc k)) (place a z) d) e
    ∙ ap (λ z. get_or (pairs (suc k)) z d) (place_is a k)
    ∙ ap (λ z. get_or (pairs k ++ pairs_up_to k) (z + (a - 1)) d) (sym (all k))
    ∙ last_row l
    ∙ ap (λ z. (a, z)) (sym e))
    (λ e. get_or_append_left (pairs k) (pairs_up_to k) d (place a b) (let h = below k a b (p, q, omega arith) in omega (arith, all k)) ∙ listed k a b d (p, q, omega arith))
    (cases_eq b (suc k))
  where
    last_row : a < suc k → get_or (pairs k ++ pairs_up_to k) (length (pairs k) + (a - 1)) d ≡ (a, suc k)
    last_row l = get_or-append-add (pairs k) (pairs_up_to k) (a - 1) d ∙ get_or-map-range_with_len {X = ℕ × ℕ} (λ z. (z, suc k)) 1 k (a - 1) a d (omega arith) (omega arith)

pub places : (n : ℕ) → Places n
places n = record {
  below = below n;
  apart = apart n;
  every = every n;
  by_higher = by_higher n;
  by_lower = by_lower n;
  listed = listed n;
  all = all n;
}

pub pairs_have_places : PairsHavePlaces
pairs_have_places = record { places = places; most = λ n h. count_mono n 24 h }
