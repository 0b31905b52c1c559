-- A step of the counter is a step of a searcher. Rests on specs/Counting and specs/Meanings.
use Rattle.std.proofs.Common.{◌≡◌, ℕ, ◌+◌, ◌^◌, ◌<◌, ◌≤◌, Bool, List, [], length, Some, None, Option, refl, ap, subst, arith}
use Rattle.clauses.specs.Falsity.{first_false_row}
use Rattle.search.specs.Searching.{Begun}
use Rattle.search.specs.States.{State, last_false, cut, filled}
use Rattle.search.specs.Counting.{counter_start, counter_next, counter_tests, counter_move}
use Rattle.search.specs.Lively.{number_below}
use Rattle.search.specs.Meanings.{counter_reserve, counter_view, number}
use Rattle.search.specs.declared.status.Status.TheVariants.{Working}
use Rattle.search.proofs.Conflicts.{conflict_onward, full_meets}
use Rattle.search.proofs.Fills.{length_filled}
use Rattle.search.proofs.Numbers.{number_falses, Counts, counts}
use Rattle.search.proofs.Order.{ahead_filled, ahead_none}
use Rattle.search.proofs.Steady.{Whole, Steady, working, at_working, goes_on, refutes, finds}

module _ (codes : List ℕ) (variables : ℕ) (values : List Bool) (age : ℕ) (full : length values ≡ variables) where
  abbrev CountsTo : State → Type 0
  CountsTo = Steady counter_view Whole codes (working variables values age)

  some_left : 0 < counter_reserve Working variables values
  some_left = omega (arith, number_below values, ap (λ n. 2 ^ n) full)

  next_steady : (row : ℕ) → first_false_row variables values codes ≡ Some row → (o : Option ℕ) → last_false values ≡ o → CountsTo (counter_next (working variables values age) o)
  next_steady row e (Some i) l =
      let c : (length (cut values i) ≤ variables) × (number (filled variables (cut values i)) ≡ number values + 1) =
      subst (λ n. (length (cut values i) ≤ n) × (number (filled n (cut values i)) ≡ number values + 1)) full (subst (Counts values) l (counts values)) in
      goes_on counter_reserve Whole codes variables values age (filled variables (cut values i)) (omega (arith, c.1, some_left))
      (λ α m a. ahead_filled variables (cut values i) 1 α (conflict_onward variables values codes row e (Some i) l α m a))
      (length_filled variables (cut values i) c.0)
  next_steady row e None l = refutes counter_reserve Whole codes variables values age values some_left (conflict_onward variables values codes row e None l) full

  tests_steady : (o : Option ℕ) → first_false_row variables values codes ≡ o → CountsTo (counter_tests (working variables values age) o)
  tests_steady (Some row) e = next_steady row e (last_false values) refl
  tests_steady None e = finds counter_reserve Whole codes variables values age some_left (full_meets variables values codes e (omega arith)) full

  counting_steady : CountsTo (counter_move (working variables values age) codes)
  unfolding counter_move
  counting_steady = tests_steady (first_false_row variables values codes) refl

pub counter_steady : (s : State) (codes : List ℕ) → Whole s → s.status ≡ Working → Steady counter_view Whole codes s (counter_move s codes)
counter_steady s codes full w =
    at_working (λ x. Whole x → Steady counter_view Whole codes x (counter_move x codes)) (counting_steady codes) s w full

pub counter_begun : (variables : ℕ) (s : State) → s ≡ counter_start variables → Begun variables (2 ^ variables) (counter_view s)
counter_begun variables s e =
    rw e
    record {
      begun_sound = tt;
      begun_variables = refl;
      begun_age = refl;
      begun_reserve = omega (arith, number_falses variables);
      begun_status = refl;
      begun_open = λ α. ahead_filled variables [] 1 α (ahead_none 1 α);
    }
