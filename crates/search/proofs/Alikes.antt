-- Counter and walker come to the same end, and the counter counts. Rests on specs/Statements.
use Rattle.std.proofs.Common.{◌≡◌, ℕ, ◌^◌, ◌≤◌, Bool, ◌⊎◌, List, [], length, sym, refl, ap, ◌∙◌, subst, inl, inr, arith}
use Rattle.clauses.specs.Meaning.{Assignment, MeetsAll, assigned}
use Rattle.search.specs.Limits.{age_limit, capped}
use Rattle.search.specs.Lively.{counter_lively, walker_lively}
use Rattle.search.specs.States.{State, cut, filled, iterated}
use Rattle.search.specs.Counting.{counter_start, counter_move, counter_step}
use Rattle.search.specs.Walking.{walker_start, walker_move, walker_step}
use Rattle.search.specs.Meanings.{Open, Ahead, number, nodes, counter_reserve, walker_reserve}
use Rattle.search.specs.Statements.{CountsUp, FirstModel, Alike}
use Rattle.search.specs.declared.status.Status.{Status}
use Rattle.search.specs.declared.status.Status.TheVariants.{Working, Found, Refuted}
use Rattle.search.proofs.Conflicts.{working_not_found}
use Rattle.search.proofs.Counts.{counter_steady, counter_begun}
use Rattle.search.proofs.Fills.{length_filled}
use Rattle.search.proofs.Lasts.{none_all_true}
use Rattle.search.proofs.Numbers.{Counts, counts}
use Rattle.search.proofs.Order.{ahead_none, ahead_filled, same_order, same_assigned}
use Rattle.search.proofs.Ranges.{run_reached}
use Rattle.search.proofs.Steady.{Whole, Partial}
use Rattle.search.proofs.Walks.{walker_steady, walker_begun}

pub counts_up : CountsUp
counts_up = record {
  next_number = λ s i full l.
      ap (λ n. number (filled n (cut s.values i))) (sym full) ∙ (subst (Counts s.values) l (counts s.values)).1;
  last_number = λ values e. none_all_true values e;
}

-- an end of a run, in the words that both machines share
pub record Settled (top : ℕ) (codes : List ℕ) (stated budget : ℕ) (s : State) : Type 0 where
  pub found_first : s.status ≡ Found → FirstModel top codes s.values
  pub found_whole : s.status ≡ Found → length s.values ≡ top
  pub none_at_all : s.status ≡ Refuted → (α : Assignment) → MeetsAll top codes α → ⊥
  pub not_working : stated ≤ budget → s.status ≡ Working → ⊥

open_found : (status : Status) (values : List Bool) (α : Assignment) → status ≡ Found → Open status values α → Ahead 1 values α
open_found Working values α e a = absurd (working_not_found e)
open_found Found values α e a = a
open_found Refuted values α e a = absurd a

pub counter_settled : (top : ℕ) (codes : List ℕ) (budget : ℕ) → budget ≤ age_limit → Settled top codes (2 ^ top) budget (iterated counter_step codes budget (counter_start top))
counter_settled top codes budget l =
    let end = iterated counter_step codes budget (counter_start top) in
    let whole : length (filled top []) ≡ top = length_filled top [] (omega arith) in
    let run = run_reached counter_reserve Whole counter_move codes top (2 ^ top) (λ s. counter_steady s codes) (λ s f. counter_lively s (omega arith)) (counter_start top) whole (counter_begun top _ refl) (λ α. ahead_filled top [] 1 α (ahead_none 1 α)) budget l in
    record {
      found_first = λ f. (run.2.found f, λ α m. open_found end.status end.values α f (run.1.all_open α m));
      found_whole = λ _. run.1.fits ∙ run.2.over;
      none_at_all = run.2.none;
      not_working = run.2.enough;
    }

pub walker_settled : (top : ℕ) (codes : List ℕ) (budget : ℕ) → budget ≤ age_limit → Settled top codes (nodes top) budget (iterated walker_step codes budget (walker_start top))
walker_settled top codes budget l =
    let end = iterated walker_step codes budget (walker_start top) in
    let run = run_reached walker_reserve Partial walker_move codes top (nodes top) (λ s f. walker_steady s codes f.0) (λ s f. walker_lively s) (walker_start top) (omega arith, λ f. absurd (working_not_found f)) (walker_begun top _ refl) (λ α. ahead_none 1 α) budget l in
    record {
      found_first = λ f. (run.2.found f, λ α m. open_found end.status end.values α f (run.1.all_open α m));
      found_whole = λ f. run.1.fits.1 f ∙ run.2.over;
      none_at_all = run.2.none;
      not_working = run.2.enough;
    }

-- two ends that are settled for the same clauses
alike_ends : (top : ℕ) (codes : List ℕ) (p b q c : ℕ) (s t : State) → Settled top codes p b s → Settled top codes q c t → p ≤ b → q ≤ c → (x y : Status) → s.status ≡ x → t.status ≡ y →
    ((s.status ≡ Refuted) × (t.status ≡ Refuted) × ((α : Assignment) → MeetsAll top codes α → ⊥)) ⊎ ((s.status ≡ Found) × (t.status ≡ Found) × (s.values ≡ t.values) × FirstModel top codes s.values)
alike_ends top codes p b q c s t m n l k Working y e f = absurd (m.not_working l e)
alike_ends top codes p b q c s t m n l k Found Working e f = absurd (n.not_working k f)
alike_ends top codes p b q c s t m n l k Refuted Working e f = absurd (n.not_working k f)
alike_ends top codes p b q c s t m n l k Refuted Refuted e f = inl (e, f, m.none_at_all e)
alike_ends top codes p b q c s t m n l k Found Refuted e f = absurd (n.none_at_all f (assigned s.values) (m.found_first e).0)
alike_ends top codes p b q c s t m n l k Refuted Found e f = absurd (m.none_at_all e (assigned t.values) (n.found_first f).0)
alike_ends top codes p b q c s t m n l k Found Found e f =
    let first = m.found_first e in
    let other = n.found_first f in
    let same = same_order s.values t.values 1 (assigned t.values) (assigned s.values) (m.found_whole e ∙ sym (n.found_whole f)) (same_assigned t.values) (same_assigned s.values) (first.1 (assigned t.values) other.0) (other.1 (assigned s.values) first.0) in
    inr (e, f, same, first)

pub alike : Alike
alike variables codes b c l k p q =
    alike_ends (capped variables) codes _ b _ c _ _ (counter_settled (capped variables) codes b l) (walker_settled (capped variables) codes c k) p q _ _ refl refl
