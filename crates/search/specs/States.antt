-- What counter and walker hold, how a step ends, and a run of either. Rests on Limits.
use Rattle.std.specs.Prelude.{ℕ, zero, suc, ◌+◌, Bool, true, false, cond, ◌&&◌, List, [], ◌∷◌, ◌++◌, take, length, Some, None, Option, nat_lt}
use Rattle.std.specs.Bool.{beq}
use Rattle.search.specs.Limits.{age_limit}
use Rattle.search.specs.declared.status.Status.{Status}
use Rattle.search.specs.declared.status.Status.TheVariants.{Working, Found, Refuted}

-- the values of the first variables, of so many variables in all; the status; the steps taken
pub record State : Type 0 where
  pub variables : ℕ
  pub values : List Bool
  pub status : Status
  pub age : ℕ

abbrev pub fresh : ℕ → List Bool → State
fresh variables values = record { variables = variables; values = values; status = Working; age = 0 }

-- one step older, with these values and this status
abbrev pub aged : State → List Bool → Status → State
aged s values status = record { variables = s.variables; values = values; status = status; age = s.age + 1 }

abbrev pub older : State → State
older s = aged s s.values s.status

-- the same but for the values, the status or the age
abbrev pub with_values : State → List Bool → State
with_values s values = record { variables = s.variables; values = values; status = s.status; age = s.age }

abbrev pub with_status : State → Status → State
with_status s status = record { variables = s.variables; values = s.values; status = status; age = s.age }

abbrev pub with_age : State → ℕ → State
with_age s age = record { variables = s.variables; values = s.values; status = s.status; age = age }

-- the index of the last value that is as wanted, told from the rest's
abbrev pub last_at : Bool → Option ℕ → Option ℕ
last_at here (Some i) = Some (suc i)
last_at here None = cond here (Some 0) None

unfoldable pub last_of : Bool → List Bool → Option ℕ
last_of wanted [] = None
last_of wanted (b ∷ bs) = last_at (beq b wanted) (last_of wanted bs)

abbrev pub last_false : List Bool → Option ℕ
last_false values = last_of false values

-- the value at this index turned to true, and what comes after it dropped
abbrev pub cut : List Bool → ℕ → List Bool
cut values i = take i values ++ true ∷ []

-- the last false turned to true and what comes after it dropped, where there is one
abbrev pub turned : State → Option ℕ → State
turned s (Some i) = with_values s (cut s.values i)
turned s None = s

-- filled up with false to n values
unfoldable pub filled : ℕ → List Bool → List Bool
filled zero values = values
filled (suc n) [] = false ∷ filled n []
filled (suc n) (b ∷ bs) = b ∷ filled n bs

-- the last false turned to true and what comes after it to false, where there is one
abbrev pub counted : List Bool → Option ℕ → List Bool
counted values (Some i) = filled (length values) (cut values i)
counted values None = values

abbrev pub is_working : Status → Bool
is_working Working = true
is_working Found = false
is_working Refuted = false

-- a step while working and below the age limit moves, and any other changes nothing
unfoldable pub stepped : (State → List ℕ → State) → State → List ℕ → State
stepped move s codes = cond (is_working s.status && nat_lt s.age age_limit) (move s codes) s

-- so many steps, or fewer where the search ends before
unfoldable pub iterated : (State → List ℕ → State) → List ℕ → ℕ → State → State
iterated step codes zero s = s
iterated step codes (suc n) s = cond (is_working s.status) (iterated step codes n (step s codes)) s
