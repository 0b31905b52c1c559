-- The counter: its first state and its step. Rests on States and on clauses' Falsity.
use Rattle.std.specs.Prelude.{ℕ, List, [], Some, None, Option}
use Rattle.clauses.specs.Falsity.{first_false_row}
use Rattle.search.specs.States.{State, fresh, aged, last_false, cut, filled, stepped}
use Rattle.search.specs.declared.status.Status.TheVariants.{Found, Refuted}

-- all false
abbrev pub counter_start : ℕ → State
counter_start variables = fresh variables (filled variables [])

-- the next assignment, variable 1 changing slowest: the last false turned to true, and those after it to false
abbrev pub counter_next : State → Option ℕ → State
counter_next s (Some i) = aged s (filled s.variables (cut s.values i)) s.status
counter_next s None = aged s s.values Refuted

-- found if no clause is false under the present assignment, none if all are true, else on to the next
abbrev pub counter_tests : State → Option ℕ → State
counter_tests s (Some row) = counter_next s (last_false s.values)
counter_tests s None = aged s s.values Found

unfoldable pub counter_move : State → List ℕ → State
counter_move s codes = counter_tests s (first_false_row s.variables s.values codes)

abbrev pub counter_step : State → List ℕ → State
counter_step = stepped counter_move
