-- Runs of searchers that are written out, of the counter and of the walker, with a budget, and what they answer. Rests on Counting, Walking and Searching.
use Rattle.std.specs.Prelude.{ℕ, Bool, cond, ◌&&◌, List, Some, None, Option, nat_le}
use Rattle.clauses.specs.Meaning.{assigned}
use Rattle.search.specs.Limits.{capped}
use Rattle.search.specs.Searching.{is_found, outcome}
use Rattle.search.specs.States.{State, iterated}
use Rattle.search.specs.Counting.{counter_start, counter_step}
use Rattle.search.specs.Walking.{walker_start, walker_step}
use Rattle.search.specs.declared.outcome.Outcome.{Outcome}

-- from the first state over these variables, by this step
abbrev pub run_of : (ℕ → State) → (State → List ℕ → State) → ℕ → List ℕ → ℕ → State
run_of start step variables codes budget = iterated step codes budget (start (capped variables))

abbrev pub counter_run : ℕ → List ℕ → ℕ → State
counter_run = run_of counter_start counter_step

abbrev pub walker_run : ℕ → List ℕ → ℕ → State
walker_run = run_of walker_start walker_step

abbrev pub answered : State → Outcome
answered s = outcome s.status s.age

-- what is shown of a variable by a searcher that holds this state: its value, when found and within the variables
abbrev pub shown_of : State → ℕ → Option Bool
shown_of s v = cond (is_found s.status && (nat_le 1 v && nat_le v s.variables)) (Some (assigned s.values v)) None
