-- Worked examples of runs, which compute. Rests on Runs.
use Rattle.std.specs.Prelude.{◌≡◌, ℕ, true, false, List, [], ◌∷◌}
use Rattle.search.specs.Runs.{counter_run, walker_run, answered}
use Rattle.search.specs.declared.outcome.Outcome.TheVariants.{Found, Refuted, Spent}

-- variables 1 and 3 true, 2 false, and the three clauses of a triangle: nothing meets them
abbrev pub triangle : List ℕ
triangle = 2 ∷ 0 ∷ 0 ∷ 6 ∷ 0 ∷ 0 ∷ 5 ∷ 0 ∷ 0 ∷ 3 ∷ 7 ∷ 4 ∷ 3 ∷ 5 ∷ 6 ∷ 5 ∷ 7 ∷ 2 ∷ []

-- variable 2 true, and if it is so, variable 1 either way
abbrev pub either_way : List ℕ
either_way = 5 ∷ 2 ∷ 3 ∷ 4 ∷ 0 ∷ 0 ∷ []

abbrev pub empty_clause : List ℕ
empty_clause = 0 ∷ 0 ∷ 0 ∷ []

pub record WorkedExamples : Type 0 where
  pub triangle_counted : answered (counter_run 3 triangle 8) ≡ Refuted 8
  pub triangle_walked : answered (walker_run 3 triangle 7) ≡ Refuted 7
  pub triangle_spent : answered (walker_run 3 triangle 6) ≡ Spent 6
  pub either_counted : answered (counter_run 2 either_way 100) ≡ Found 2
  pub either_walked : answered (walker_run 2 either_way 100) ≡ Found 4
  pub either_counted_values : (counter_run 2 either_way 100).values ≡ false ∷ true ∷ []
  pub either_walked_values : (walker_run 2 either_way 100).values ≡ false ∷ true ∷ []
  pub nothing_counted : answered (counter_run 0 [] 1) ≡ Found 1
  pub nothing_walked : answered (walker_run 0 [] 1) ≡ Found 1
  pub nothing_counted_spent : answered (counter_run 0 [] 0) ≡ Spent 0
  pub nothing_walked_spent : answered (walker_run 0 [] 0) ≡ Spent 0
  pub empty_counted : answered (counter_run 0 empty_clause 1) ≡ Refuted 1
  pub empty_walked : answered (walker_run 0 empty_clause 1) ≡ Refuted 1
