-- That the two pickers name lots that stand (lemmas that their impls cite). Rests on Filled and Pickers.
use Rattle.std.specs.Prelude.{◌≡◌, ℕ, Bool, true, List, [], ◌∷◌, nat_lt, refl}
use Rattle.std.specs.List.{best_of}
use Rattle.std.proofs.lemmas.Bool.Decides.{nat_tests}
use Rattle.std.proofs.Common.{arith}
use Rattle.graph.specs.Filled.{NamesStanding}
use Rattle.graph.specs.Lots.{has}
use Rattle.graph.specs.Pickers.{lowest_first, degree, fewest_first}

-- the choice is the first, or one of the rest
chosen : (beats : ℕ → ℕ → Bool) (best : ℕ) (xs : List ℕ) → has (best_of beats best xs) (best ∷ xs) ≡ true
chosen beats best [] = grind (arith, nat_tests)
chosen beats best (x ∷ xs) = grind (arith, nat_tests, chosen beats x xs, chosen beats best xs)

pub lowest_names : NamesStanding lowest_first
lowest_names = record { stands = λ x rest e. grind (arith, nat_tests); none = λ e. refl }

pub fewest_names : NamesStanding fewest_first
fewest_names = record { stands = λ x rest e. chosen (λ v w. nat_lt (degree e v (x ∷ rest)) (degree e w (x ∷ rest))) x rest; none = λ e. refl }
