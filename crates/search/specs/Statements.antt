-- What is so of the counter's and the walker's runs: the statements that contracts name. Rests on Runs and Meanings.
use Rattle.std.specs.Prelude.{◌≡◌, ℕ, ◌+◌, ◌^◌, ◌<◌, ◌≤◌, Bool, true, false, ◌⊎◌, List, length, Some, None, slice_index_or}
use Rattle.clauses.specs.Meaning.{Assignment, MeetsAll, assigned}
use Rattle.search.specs.Limits.{age_limit, capped}
use Rattle.search.specs.States.{State, last_false}
use Rattle.search.specs.Counting.{counter_next}
use Rattle.search.specs.Meanings.{Ahead, number, nodes}
use Rattle.search.specs.Runs.{counter_run, walker_run}
use Rattle.search.specs.declared.status.Status.TheVariants.{Found, Refuted}

-- the counter counts: its next values are the next number in binary, variable 1 the highest digit; where there is no next, all are true
pub record CountsUp : Type 0 where
  pub next_number : (s : State) (i : ℕ) → length s.values ≡ s.variables → last_false s.values ≡ Some i → number (counter_next s (Some i)).values ≡ number s.values + 1
  pub last_number : (values : List Bool) → last_false values ≡ None → (v : ℕ) → v < length values → slice_index_or values v false ≡ true

-- these values meet all the clauses, and every assignment that does has them or comes after them
abbrev pub FirstModel : ℕ → List ℕ → List Bool → Type 0
FirstModel top codes values = MeetsAll top codes (assigned values) × ((α : Assignment) → MeetsAll top codes α → Ahead 1 values α)

-- with budgets of their reserves, both say none, and no assignment meets the clauses; or both show the first that does
abbrev pub Alike : Type 0
Alike =
    (variables : ℕ) (codes : List ℕ) (b c : ℕ) → b ≤ age_limit → c ≤ age_limit → 2 ^ capped variables ≤ b → nodes (capped variables) ≤ c
    → (((counter_run variables codes b).status ≡ Refuted)
    × ((walker_run variables codes c).status ≡ Refuted)
    × ((α : Assignment) → MeetsAll (capped variables) codes α → ⊥))
    ⊎ (((counter_run variables codes b).status ≡ Found)
    × ((walker_run variables codes c).status ≡ Found)
    × ((counter_run variables codes b).values ≡ (walker_run variables codes c).values)
    × FirstModel (capped variables) codes (counter_run variables codes b).values)
