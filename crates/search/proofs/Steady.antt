-- Steps of a machine that move as a searcher's do, and close nothing that meets all the clauses. Rests on specs/Searching and specs/Meanings.
use Rattle.std.proofs.Common.{◌≡◌, ℕ, ◌<◌, ◌≤◌, Bool, List, length, refl, sym, subst}
use Rattle.clauses.specs.Meaning.{Assignment, MeetsAll, assigned}
use Rattle.search.specs.Searching.{View, Moved}
use Rattle.search.specs.States.{State, aged}
use Rattle.search.specs.Meanings.{Ahead, Open, seen_with}
use Rattle.search.specs.declared.status.Status.{Status}
use Rattle.search.specs.declared.status.Status.TheVariants.{Working, Found, Refuted}
use Rattle.search.proofs.Conflicts.{working_not_found, working_not_refuted, found_not_refuted}

-- a counter has a value for each variable
abbrev pub Whole : State → Type 0
Whole s = length s.values ≡ s.variables

-- a walker has no more values than variables, and when found as many
abbrev pub Partial : State → Type 0
Partial s = (length s.values ≤ s.variables) × (s.status ≡ Found → length s.values ≡ s.variables)

pub record Steady (view : State → View) (Fit : State → Type 0) (codes : List ℕ) (s t : State) : Type 0 where
  pub moved : Moved codes (view s) (view t)
  pub kept : (α : Assignment) → MeetsAll s.variables codes α → Open s.status s.values α → Open t.status t.values α
  pub fit : Fit t

abbrev pub working : ℕ → List Bool → ℕ → State
working variables values age = record { variables = variables; values = values; status = Working; age = age }

-- what holds of working states holds of a state that is working
pub at_working : (P : State → Type 0) → ((variables : ℕ) (values : List Bool) (age : ℕ) → P (working variables values age)) → (s : State) → s.status ≡ Working → P s
at_working P holds s w =
    let Q : Status → Type 0 = λ status. P record { variables = s.variables; values = s.values; status = status; age = s.age } in
    subst Q (sym w) (holds s.variables s.values s.age)

-- the three ways in which a working machine goes on
module _ (reserve : Status → ℕ → List Bool → ℕ) (Fit : State → Type 0) (codes : List ℕ) (variables : ℕ) (values : List Bool) (age : ℕ) where
  abbrev pub GoesTo : List Bool → Status → Type 0
  GoesTo next status = Steady (seen_with reserve) Fit codes (working variables values age) (aged (working variables values age) next status)

  abbrev pub Closes : List Bool → Status → Type 0
  Closes next status = (α : Assignment) → MeetsAll variables codes α → Ahead 1 values α → Open status next α

  pub goes_on : (next : List Bool) → reserve Working variables next < reserve Working variables values → Closes next Working → Fit (aged (working variables values age) next Working) → GoesTo next Working
  goes_on next less kept fit = record {
    moved = record {
      stays_sound = tt;
      same_variables = refl;
      more_age = refl;
      less_reserve = less;
      keeps = λ _. kept;
      finds = λ f. absurd (working_not_found f);
      refutes = λ r. absurd (working_not_refuted r);
    };
    kept = kept;
    fit = fit;
  }

  pub refutes : (next : List Bool) → reserve Refuted variables next < reserve Working variables values → Closes next Refuted → Fit (aged (working variables values age) next Refuted) → GoesTo next Refuted
  refutes next less kept fit = record {
    moved = record {
      stays_sound = tt;
      same_variables = refl;
      more_age = refl;
      less_reserve = less;
      keeps = λ _. kept;
      finds = λ f. absurd (found_not_refuted (sym f));
      refutes = λ _ α a. a;
    };
    kept = kept;
    fit = fit;
  }

  pub finds : reserve Found variables values < reserve Working variables values → MeetsAll variables codes (assigned values) → Fit (aged (working variables values age) values Found) → GoesTo values Found
  finds less meets fit = record {
    moved = record {
      stays_sound = tt;
      same_variables = refl;
      more_age = refl;
      less_reserve = less;
      keeps = λ _ α _ a. a;
      finds = λ _. meets;
      refutes = λ r. absurd (found_not_refuted r);
    };
    kept = λ α _ a. a;
    fit = fit;
  }
