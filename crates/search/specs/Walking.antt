-- The walker: its first state and its step. Rests on States and on clauses' Falsity.
use Rattle.std.specs.Prelude.{ℕ, Bool, false, cond, List, [], ◌∷◌, ◌++◌, length, Some, None, Option, ◌==◌}
use Rattle.clauses.specs.Falsity.{first_false_row}
use Rattle.search.specs.States.{State, fresh, aged, last_false, cut, stepped}
use Rattle.search.specs.declared.status.Status.TheVariants.{Found, Refuted}
use Rattle.search.specs.declared.walker.prefix.Prefix.{Prefix}
use Rattle.search.specs.declared.walker.prefix.Prefix.TheVariants.{Conflict, Full, Extendable}

-- no values
abbrev pub walker_start : ℕ → State
walker_start variables = fresh variables []

-- a conflict if a clause is false in every code; else full if every variable has a value
abbrev pub prefix_at : Option ℕ → Bool → Prefix
prefix_at (Some row) all = Conflict
prefix_at None all = cond all Full Extendable

unfoldable pub prefix_of : State → List ℕ → Prefix
prefix_of s codes = prefix_at (first_false_row s.variables s.values codes) (length s.values == s.variables)

-- trailing trues dropped and the last false turned to true; none if nothing remains
abbrev pub walker_back : State → Option ℕ → State
walker_back s (Some i) = aged s (cut s.values i) s.status
walker_back s None = aged s [] Refuted

abbrev pub walker_by : State → Prefix → State
walker_by s Conflict = walker_back s (last_false s.values)
walker_by s Full = aged s s.values Found
walker_by s Extendable = aged s (s.values ++ false ∷ []) s.status

unfoldable pub walker_move : State → List ℕ → State
walker_move s codes = walker_by s (prefix_of s codes)

abbrev pub walker_step : State → List ℕ → State
walker_step = stepped walker_move
