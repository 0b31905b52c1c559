-- What a searcher is, seen from outside, what its calls do to that, and what a run of it answers. Rests on clauses' Meaning.
use Rattle.std.specs.Prelude.{◌≡◌, ℕ, suc, ◌+◌, ◌<◌, ◌≤◌, Bool, true, false, cond, ◌&&◌, List, Some, None, Option, ◌≢◌, nat_le}
use Rattle.clauses.specs.Meaning.{Assignment, MeetsAll}
use Rattle.search.specs.declared.status.Status.{Status}
use Rattle.search.specs.declared.status.Status.TheVariants.{Working, Found, Refuted}
use Rattle.search.specs.declared.outcome.Outcome.{Outcome}
use Rattle.search.specs.declared.outcome.Outcome.TheVariants as outcomes

pub record View : Type 1 where
  -- what holds of the searcher once it has begun, and stays so: of one made of others, that they go together
  pub sound : Type 0
  -- how many variables there are
  pub variables : ℕ
  -- the open assignments
  pub admits : Assignment → Type 0
  -- the steps taken
  pub age : ℕ
  -- what bounds the steps still to come
  pub reserve : ℕ
  pub status : Status
  -- the assignment shown when found
  pub shown : Assignment

-- a search that begins over `top` variables
pub record Begun (top stated : ℕ) (t : View) : Type 0 where
  pub begun_sound : t.sound
  pub begun_variables : t.variables ≡ top
  pub begun_age : t.age ≡ 0
  pub begun_reserve : t.reserve ≡ stated
  pub begun_status : t.status ≡ Working
  pub begun_open : (α : Assignment) → t.admits α

-- one step of a sound, working searcher that is handed these codes
pub record Moved (codes : List ℕ) (s t : View) : Type 0 where
  pub stays_sound : t.sound
  pub same_variables : t.variables ≡ s.variables
  pub more_age : t.age ≡ s.age + 1
  pub less_reserve : t.reserve < s.reserve
  pub keeps : (t.status ≢ Found) → (α : Assignment) → MeetsAll s.variables codes α → s.admits α → t.admits α
  pub finds : t.status ≡ Found → MeetsAll s.variables codes t.shown
  pub refutes : t.status ≡ Refuted → (α : Assignment) → t.admits α → ⊥

abbrev pub is_found : Status → Bool
is_found Working = false
is_found Found = true
is_found Refuted = false

-- the answer to the question for a variable's value
abbrev pub told : View → ℕ → Option Bool
told t v = cond (is_found t.status && (nat_le 1 v && nat_le v t.variables)) (Some (t.shown v)) None

-- the second searcher comes from the first by so many steps, each taken while working
pub data Stepped {S : Type 0} (view : S → View) (step : S → S → Type 0) : ℕ → S → S → Type 0 where
  here : {s : S} → Stepped view step 0 s s
  on : {n : ℕ} {s t u : S} → Stepped view step n s t → (view t).status ≡ Working → step t u → Stepped view step (suc n) s u

-- a searcher that begins over this many variables, and then takes so many steps over these codes
abbrev pub Ran : {S : Type 0} → (S → View) → (S → ℕ → S → Type 0) → (S → List ℕ → S → Type 0) → ℕ → List ℕ → ℕ → S → S → Type 0
Ran {S} view begins steps variables codes n s t = (begun : S) × begins s variables begun × Stepped view (λ x y. steps x codes y) n begun t

-- a status after so many steps, as an answer
abbrev pub outcome : Status → ℕ → Outcome
outcome Working n = outcomes.Spent n
outcome Found n = outcomes.Found n
outcome Refuted n = outcomes.Refuted n

abbrev pub steps_of : Outcome → ℕ
steps_of (outcomes.Spent n) = n
steps_of (outcomes.Found n) = n
steps_of (outcomes.Refuted n) = n

-- what the end of a run and its answer say, over `top` variables, with this opening reserve and this budget
pub record Answers (top stated : ℕ) (codes : List ℕ) (budget : ℕ) (end : View) (r : Outcome) : Type 0 where
  pub over : end.variables ≡ top
  pub answer : r ≡ outcome end.status end.age
  pub within : end.age ≤ budget
  pub found : end.status ≡ Found → MeetsAll top codes end.shown
  pub none : end.status ≡ Refuted → (α : Assignment) → MeetsAll top codes α → ⊥
  pub spent : end.status ≡ Working → end.age ≡ budget
  pub enough : stated ≤ budget → end.status ≢ Working
