-- A step of the walker is a step of a searcher. Rests on specs/Walking and specs/Meanings.
use Rattle.std.proofs.Common.{◌≡◌, ℕ, ◌<◌, ◌≤◌, Bool, true, false, List, [], length, Some, None, Option, ◌==◌, refl, sym, subst, arith}
use Rattle.std.proofs.lemmas.List.{length_push}
use Rattle.std.proofs.lemmas.Bool.{eqb-true, eqb-false}
use Rattle.clauses.specs.Falsity.{first_false_row}
use Rattle.search.specs.Searching.{Begun}
use Rattle.search.specs.States.{State, last_false, cut}
use Rattle.search.specs.Walking.{walker_start, prefix_at, prefix_of, walker_back, walker_by, walker_move}
use Rattle.search.specs.Lively.{nodes_ahead}
use Rattle.search.specs.Meanings.{nodes, ahead_nodes, walker_reserve, walker_view}
use Rattle.search.specs.declared.status.Status.TheVariants.{Working}
use Rattle.search.proofs.Conflicts.{conflict_onward, full_meets, working_not_found, found_not_refuted}
use Rattle.search.proofs.Order.{ahead_push, ahead_none}
use Rattle.search.proofs.Steady.{Partial, Steady, working, at_working, goes_on, refutes, finds}
use Rattle.search.proofs.Trees.{nodes_push, Fewer, fewer}

module _ (codes : List ℕ) (variables : ℕ) (values : List Bool) (age : ℕ) (short : length values ≤ variables) where
  abbrev WalksTo : State → Type 0
  WalksTo = Steady walker_view Partial codes (working variables values age)

  back_steady : (row : ℕ) → first_false_row variables values codes ≡ Some row → (o : Option ℕ) → last_false values ≡ o → WalksTo (walker_back (working variables values age) o)
  back_steady row e (Some i) l =
      let f = subst (Fewer variables values) l (fewer variables values short) in
      goes_on walker_reserve Partial codes variables values age (cut values i) f.1 (conflict_onward variables values codes row e (Some i) l)
      (omega (arith, f.0), λ w. absurd (working_not_found w))
  back_steady row e None l =
      refutes walker_reserve Partial codes variables values age [] (nodes_ahead variables values) (conflict_onward variables values codes row e None l)
      (omega arith, λ w. absurd (found_not_refuted (sym w)))

  by_steady : (o : Option ℕ) (all : Bool) → first_false_row variables values codes ≡ o → (length values == variables) ≡ all → WalksTo (walker_by (working variables values age) (prefix_at o all))
  by_steady (Some row) all e f = back_steady row e (last_false values) refl
  by_steady None true e f =
      let is = eqb-true (length values) variables f in
      finds walker_reserve Partial codes variables values age (nodes_ahead variables values) (full_meets variables values codes e (omega arith)) (short, λ _. is)
  by_steady None false e f =
      let room : length values < variables = let ne = eqb-false (length values) variables f in omega arith in
      goes_on walker_reserve Partial codes variables values age _ (omega (arith, nodes_push variables values room)) (λ α _ a. ahead_push values 1 α a)
      (omega (arith, length_push values false), λ w. absurd (working_not_found w))

  walking_steady : WalksTo (walker_move (working variables values age) codes)
  unfolding walker_move prefix_of
  walking_steady = by_steady (first_false_row variables values codes) (length values == variables) refl refl

pub walker_steady : (s : State) (codes : List ℕ) → length s.values ≤ s.variables → s.status ≡ Working → Steady walker_view Partial codes s (walker_move s codes)
walker_steady s codes short w =
    at_working (λ x. length x.values ≤ x.variables → Steady walker_view Partial codes x (walker_move x codes)) (walking_steady codes) s w short

pub walker_begun : (variables : ℕ) (s : State) → s ≡ walker_start variables → Begun variables (nodes variables) (walker_view s)
unfolding ahead_nodes
walker_begun variables s e =
    rw e
    record {
      begun_sound = tt;
      begun_variables = refl;
      begun_age = refl;
      begun_reserve = refl;
      begun_status = refl;
      begun_open = λ α. ahead_none 1 α;
    }
