-- The variables of pairs.
use Rattle.std.proofs.lemmas.List.Sums.{sum_by-cons, count_by-le-length}
use Rattle.std.proofs.lemmas.Bool.Decides.{nat_tests}
use Rattle.std.proofs.Common.{◌≡◌, ℕ, zero, suc, ◌+◌, ◌-◌, ◌<◌, ◌≤◌, Bool, true, false, cond, List, [], ◌∷◌, length, get_or, take, refl, ap, ⊎_elim, arith}
use Rattle.std.proofs.lemmas.Bool.{cases_Bool}
use Rattle.graph.specs.Numbering.{after, numbers, linked_count, variable, pair_variables}
use Rattle.graph.specs.NumberingLaws.{PairsAreNumbered}
use Rattle.graph.specs.Pairs.{IsPair, place, pairs}
use Rattle.graph.proofs.Places.{places}

-- the variables of a list of pairs, from its linked pairs
module _ (linked : ℕ → ℕ → Bool) (d : ℕ × ℕ) where
  abbrev linked_at : List (ℕ × ℕ) → ℕ → Bool
  linked_at ps i = linked (get_or ps i d).0 (get_or ps i d).1

  one_more : (p : ℕ × ℕ) (ps : List (ℕ × ℕ)) → linked_count linked (p ∷ ps) ≡ cond (linked p.0 p.1) (suc (linked_count linked ps)) (linked_count linked ps)
  one_more p ps = grind (arith, nat_tests, sum_by-cons (λ (q : ℕ × ℕ). cond (linked q.0 q.1) 1 0) p ps)

  numbers_at : (k : ℕ) (ps : List (ℕ × ℕ)) (i : ℕ) → i < length ps → get_or (numbers k linked ps) i 0 ≡ cond (linked_at ps i) (k + linked_count linked (take i ps)) 0
  numbers_at k [] i l = absurd (omega arith)
  numbers_at k (p ∷ ps) zero l = grind (arith, nat_tests)
  numbers_at k (p ∷ ps) (suc i) l = grind (arith, nat_tests, one_more p (take i ps), numbers_at (after k linked p) ps i (omega arith))

  -- a linked pair counts among those before a later one
  count_lt : (ps : List (ℕ × ℕ)) (i j : ℕ) → i < j → j ≤ length ps → linked_at ps i ≡ true → linked_count linked (take i ps) < linked_count linked (take j ps)
  count_lt [] i j l m h = absurd (omega arith)
  count_lt (p ∷ ps) i zero l m h = absurd (omega arith)
  count_lt (p ∷ ps) zero (suc j) l m h = grind (arith, nat_tests, one_more p (take j ps))
  count_lt (p ∷ ps) (suc i) (suc j) l m h = grind (arith, nat_tests, one_more p (take i ps), one_more p (take j ps), count_lt ps i j (omega arith) (omega arith) h)

  -- and among all
  count_all : (ps : List (ℕ × ℕ)) (i : ℕ) → i < length ps → linked_at ps i ≡ true → linked_count linked (take i ps) < linked_count linked ps
  count_all [] i l h = absurd (omega arith)
  count_all (p ∷ ps) zero l h = grind (arith, nat_tests, one_more p ps)
  count_all (p ∷ ps) (suc i) l h = grind (arith, nat_tests, one_more p ps, one_more p (take i ps), count_all ps i (omega arith) h)

  -- each number below the count is that of the linked pairs before some linked pair
  abbrev Before : List (ℕ × ℕ) → ℕ → Type 0
  Before ps c = (i : ℕ) × (i < length ps) × (linked_at ps i ≡ true) × (linked_count linked (take i ps) ≡ c)

  before : (ps : List (ℕ × ℕ)) (c : ℕ) → c < linked_count linked ps → Before ps c
  before [] c l = absurd (omega arith)
  before (p ∷ ps) zero l =
      let n = one_more p ps in ⊎_elim
      (λ e. (0, omega arith, e, refl))
      (λ e. let (i, m, h, q) = before ps 0 (grind (arith, nat_tests)) in (suc i, omega arith, h, grind (arith, nat_tests, one_more p (take i ps))))
      (cases_Bool (linked p.0 p.1))
  before (p ∷ ps) (suc c) l =
      let n = one_more p ps in ⊎_elim
      (λ e. let (i, m, h, q) = before ps c (grind (arith, nat_tests)) in (suc i, omega arith, h, grind (arith, nat_tests, one_more p (take i ps))))
      (λ e. let (i, m, h, q) = before ps (suc c) (grind (arith, nat_tests)) in (suc i, omega arith, h, grind (arith, nat_tests, one_more p (take i ps))))
      (cases_Bool (linked p.0 p.1))

-- at the pairs of n lots
module _ (n : ℕ) (linked : ℕ → ℕ → Bool) where
  abbrev nowhere : ℕ × ℕ
  nowhere = (0, 0)

  in_list : (a b : ℕ) → IsPair n a b → place a b < length (pairs n)
  in_list a b p = let h = (places n).below a b p in let e = (places n).all in omega arith

  at_place : (a b : ℕ) → IsPair n a b → linked_at linked nowhere (pairs n) (place a b) ≡ linked a b
  at_place a b p = ap (λ q. linked q.0 q.1) ((places n).listed a b nowhere p)

  variable_is : (a b : ℕ) → IsPair n a b → variable n linked a b ≡ cond (linked a b) (1 + linked_count linked (take (place a b) (pairs n))) 0
  variable_is a b p = grind (arith, nat_tests, numbers_at linked nowhere 1 (pairs n) (place a b) (in_list a b p), at_place a b p)

  counted : (a b : ℕ) → IsPair n a b → linked a b ≡ true → variable n linked a b ≡ suc (linked_count linked (take (place a b) (pairs n)))
  counted a b p h = grind (arith, nat_tests, variable_is a b p)

  unlinked : (a b : ℕ) → IsPair n a b → linked a b ≡ false → variable n linked a b ≡ 0
  unlinked a b p h = grind (arith, nat_tests, variable_is a b p)

  rising : (a b c d : ℕ) → IsPair n a b → IsPair n c d → linked a b ≡ true → linked c d ≡ true → place a b < place c d → variable n linked a b < variable n linked c d
  rising a b c d p q h k l =
      let i = in_list c d q in
      grind (arith, nat_tests, counted a b p h, counted c d q k, at_place a b p, count_lt linked nowhere (pairs n) (place a b) (place c d) l)

  within : (a b : ℕ) → IsPair n a b → variable n linked a b ≤ pair_variables n linked
  within a b p = grind (arith, nat_tests, variable_is a b p, at_place a b p, count_all linked nowhere (pairs n) (place a b) (in_list a b p))

  abbrev Has : ℕ → Type 0
  Has v = (a b : ℕ) × IsPair n a b × (linked a b ≡ true) × (variable n linked a b ≡ v)

  every : (v : ℕ) → 1 ≤ v → v ≤ pair_variables n linked → Has v
  every v l m =
      let (i, k, h, c) = before linked nowhere (pairs n) (v - 1) (omega arith) in
      let s = (places n).all in
      let (a, b, p, e) = (places n).every i (omega arith) in
      (a, b, p, grind (arith, nat_tests, at_place a b p), grind (arith, nat_tests, at_place a b p, counted a b p))

pub pairs_are_numbered : PairsAreNumbered
pairs_are_numbered n linked = record {
  unlinked = unlinked n linked;
  counted = counted n linked;
  rising = rising n linked;
  within = within n linked;
  every = every n linked;
  most = omega (arith, (places n).all, count_by-le-length (λ (q : ℕ × ℕ). linked q.0 q.1) (pairs n));
}
