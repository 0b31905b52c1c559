-- Runs of a machine whose steps are steady: what holds of the state at the end. Rests on specs/Runs and proofs/Standings.
use Rattle.std.proofs.Common.{◌≡◌, ℕ, zero, suc, ◌+◌, ◌<◌, ◌≤◌, Bool, List, sym, refl, ap, subst, ⊎_elim, arith}
use Rattle.clauses.specs.Meaning.{Assignment, MeetsAll}
use Rattle.search.specs.Limits.{age_limit}
use Rattle.search.specs.Searching.{Begun, Answers}
use Rattle.search.specs.States.{State, stepped, iterated}
use Rattle.search.specs.Meanings.{Open, seen_with}
use Rattle.search.specs.Runs.{answered}
use Rattle.search.specs.declared.status.Status.{Status}
use Rattle.search.specs.declared.status.Status.TheVariants.{Working}
use Rattle.search.proofs.Iterations.{cases_working, iterated_on, iterated_ended}
use Rattle.search.proofs.Standings.{Standing, standing_begun, standing_moved, standing_answers}
use Rattle.search.proofs.Steady.{Steady}
use Rattle.search.proofs.Steps.{on_stepped}

module _ (reserve : Status → ℕ → List Bool → ℕ) (Fit : State → Type 0) (move : State → List ℕ → State) (codes : List ℕ) (top stated : ℕ) where
  pub record Reached (n : ℕ) (s : State) : Type 0 where
    pub standing : Standing top stated codes n (seen_with reserve s)
    pub fits : Fit s
    pub all_open : (α : Assignment) → MeetsAll top codes α → Open s.status s.values α

  module _ (steady : (s : State) → Fit s → s.status ≡ Working → Steady (seen_with reserve) Fit codes s (move s codes)) where
    reached_more : (n : ℕ) (s : State) → Reached n s → s.status ≡ Working → n < age_limit → Reached (n + 1) (stepped move s codes)
    reached_more n s r w young =
        let st = steady s r.fits w in
        let aged : s.age ≡ n = r.standing.at_age in
        let is = on_stepped move codes s (move s codes) w (omega arith) refl in
        subst (Reached (n + 1)) is
        record {
          standing = standing_moved top stated codes n _ _ r.standing w st.moved;
          fits = st.fit;
          all_open = λ α m. st.kept α (subst (λ k. MeetsAll k codes α) (sym r.standing.at_variables) m) (r.all_open α m);
        }

    abbrev Ended : ℕ → State → Type 0
    Ended all s = (n : ℕ) × Reached n s × (n ≤ all) × (s.status ≡ Working → n ≡ all)

    reached_end : (budget n : ℕ) (s : State) → Reached n s → n + budget ≤ age_limit → Ended (n + budget) (iterated (stepped move) codes budget s)
    unfolding iterated
    reached_end zero n s r l = (n, r, omega arith, λ _. omega arith)
    reached_end (suc b) n s r l =
        let P : State → Type 0 = λ t. Ended (n + suc b) t in
        ⊎_elim
        (λ (w : s.status ≡ Working).
        let e : n + 1 + b ≡ n + suc b = omega arith in
        subst P (sym (iterated_on (stepped move) codes b s w))
        (subst (λ k. Ended k (iterated (stepped move) codes b (stepped move s codes))) e
        (reached_end b (n + 1) (stepped move s codes) (reached_more n s r w (omega arith)) (omega arith))))
        (λ (i : s.status ≡ Working → ⊥).
        subst P (sym (iterated_ended (stepped move) codes (suc b) s i)) (n, r, omega arith, λ w. absurd (i w)))
        (cases_working s.status)

    -- a run from a first state, with a budget that the age limit allows
    pub run_reached : (lively : (s : State) → Fit s → s.status ≡ Working → 0 < reserve s.status s.variables s.values) (start : State) → Fit start → Begun top stated (seen_with reserve start) → ((α : Assignment) → Open start.status start.values α) → (budget : ℕ) → budget ≤ age_limit → (n : ℕ) × Reached n (iterated (stepped move) codes budget start) × Answers top stated codes budget (seen_with reserve (iterated (stepped move) codes budget start)) (answered (iterated (stepped move) codes budget start))
    run_reached lively start fits begun open_all budget l =
        let end = iterated (stepped move) codes budget start in
        let first : Reached 0 start = record { standing = standing_begun top stated codes _ begun; fits = fits; all_open = λ α _. open_all α } in
        let r = reached_end budget 0 start first (omega arith) in
        let at = r.1.standing in
        (r.0, r.1, standing_answers top stated codes r.0 budget (seen_with reserve end) (answered end) at (omega (arith, r.2)) (λ w. omega (arith, r.3 w)) (lively end r.1.fits) (ap (λ k. answered record { variables = end.variables; values = end.values; status = end.status; age = k }) at.at_age))
