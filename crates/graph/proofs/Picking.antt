-- What the two pickers name.
use Rattle.std.proofs.lemmas.Bool.Decides.{nat_tests}
use Rattle.std.proofs.Common.{◌≡◌, ℕ, ◌≤◌, true, List, [], ◌∷◌, nat_lt, ⊎_elim, arith}
use Rattle.std.proofs.lemmas.Bool.{ltb-true, ltb-false, cond_both}
use Rattle.graph.specs.Filled.{Rising}
use Rattle.graph.specs.FillingLaws.{PickersPick}
use Rattle.graph.specs.Lots.{has}
use Rattle.graph.proofs.Members.{has_first, has_next, has_cases}
use Rattle.graph.specs.Pickers.{degree, fewest}
use Rattle.graph.specs.Picking.{lowest_names, fewest_names}

-- no other has a lower figure, and none below it has the same
abbrev Beats : (ℕ → ℕ) → ℕ → ℕ → Type 0
Beats d f z = (d f ≤ d z) × (d z ≤ d f → f ≤ z)

-- every lot of a list is beaten
abbrev Best : (ℕ → ℕ) → ℕ → List ℕ → Type 0
Best d f xs = (z : ℕ) → has z xs ≡ true → Beats d f z

-- one lot more, where the better of it and the best so far beats both
one_more : (d : ℕ → ℕ) (f b best x : ℕ) (xs : List ℕ) → Best d f (b ∷ xs) → Beats d b best → Beats d b x → Best d f (best ∷ x ∷ xs)
one_more d f b best x xs i p q z h = grind (arith, nat_tests)

beats : (d : ℕ → ℕ) (best : ℕ) (xs : List ℕ) → Rising (best ∷ xs) → Best d (fewest d best xs) (best ∷ xs)
beats d best [] r z h = grind (arith, nat_tests)
beats d best (x ∷ xs) r z h = cond_both (nat_lt (d x) (d best)) x best (λ b. Beats d (fewest d b xs) z)
    (λ c. let l = ltb-true (d x) (d best) c in one_more d (fewest d x xs) x best x xs (beats d x xs r.1) (omega arith, λ q. absurd (omega arith)) (omega arith, λ q. omega arith) z h)
    (λ c. let l = ltb-false (d x) (d best) c in let s = r.0 x (has_first x xs) in
    one_more d (fewest d best xs) best best x xs (beats d best xs (λ w k. r.0 w (has_next x w xs k), r.1.1)) (omega arith, λ q. omega arith) (omega arith, λ q. omega arith) z h)

pub pickers_pick : PickersPick
pickers_pick = record {
  lowest = lowest_names;
  lowest_low = λ x rest e r z h. ⊎_elim (λ q. omega arith) (λ q. let l = r.0 z q in omega arith) (has_cases x z rest h);
  fewest = fewest_names;
  fewest_few = λ x rest e r z h. (beats (λ v. degree e v (x ∷ rest)) x rest r z h).0;
  fewest_low = λ x rest e r z h q. (beats (λ v. degree e v (x ∷ rest)) x rest r z h).1 (omega arith);
}
