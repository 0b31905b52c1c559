-- A chain of steps that ends where the budget or the search does is the run that is written out. Rests on specs/States and specs/Searching.
use Rattle.std.proofs.Common.{◌≡◌, ℕ, zero, suc, ◌+◌, ◌-◌, ◌≤◌, ◌⊎◌, cond, ◌&&◌, leb, List, Some, None, sym, refl, ap, ◌∙◌, inl, inr, ⊎_elim, arith}
use Rattle.std.proofs.lemmas.Bool.{cond-true, cond-false}
use Rattle.clauses.specs.Meaning.{assigned}
use Rattle.search.specs.Runs.{shown_of}
use Rattle.search.specs.Searching.{View, Stepped, here, on, is_found, told, outcome, steps_of, Answers}
use Rattle.search.specs.States.{State, is_working, iterated}
use Rattle.search.specs.declared.status.Status.{Status}
use Rattle.search.specs.declared.status.Status.TheVariants.{Working, Found, Refuted}
use Rattle.search.specs.declared.outcome.Outcome.{Outcome}
use Rattle.search.proofs.Conflicts.{working_not_found, working_not_refuted}
use Rattle.search.proofs.Steps.{not_working}

pub steps_outcome : (s : Status) (n : ℕ) → steps_of (outcome s n) ≡ n
steps_outcome Working n = refl
steps_outcome Found n = refl
steps_outcome Refuted n = refl

-- a searcher shows what the state that it holds shows
pub told_shown : (w : View) (s : State) → w.status ≡ s.status → w.variables ≡ s.variables → ((v : ℕ) → w.shown v ≡ assigned s.values v) → (v : ℕ) → told w v ≡ shown_of s v
told_shown w s status variables shown v =
    ap (λ x. cond (is_found x && (leb 1 v && leb v w.variables)) (Some (w.shown v)) None) status
    ∙ ap (λ n. cond (is_found s.status && (leb 1 v && leb v n)) (Some (w.shown v)) None) variables
    ∙ ap (λ b. cond (is_found s.status && (leb 1 v && leb v s.variables)) (Some b) None) (shown v)

pub cases_working : (s : Status) → (s ≡ Working) ⊎ (s ≡ Working → ⊥)
cases_working Working = inl refl
cases_working Found = inr (λ e. working_not_found (sym e))
cases_working Refuted = inr (λ e. working_not_refuted (sym e))

module _ (step : State → List ℕ → State) (codes : List ℕ) where
  pub iterated_on : (k : ℕ) (s : State) → s.status ≡ Working → iterated step codes (suc k) s ≡ iterated step codes k (step s codes)
  unfolding iterated
  iterated_on k s w = cond-true (is_working s.status) _ s (ap is_working w)

  pub iterated_ended : (k : ℕ) (s : State) → (s.status ≡ Working → ⊥) → iterated step codes k s ≡ s
  unfolding iterated
  iterated_ended zero s n = refl
  iterated_ended (suc k) s n = cond-false (is_working s.status) _ s (not_working s.status n)

  iterated_none : (k : ℕ) (s : State) → k ≡ 0 → iterated step codes k s ≡ s
  unfolding iterated
  iterated_none zero s e = refl
  iterated_none (suc k) s e = absurd (omega arith)

  -- a searcher that holds such states, and whose steps are such steps
  module _ {S : Type 0} (view : S → View) (state : S → State) (R : S → S → Type 0)
      (shows : (x : S) → (view x).status ≡ (state x).status) (goes_on : (x y : S) → R x y → state y ≡ step (state x) codes) where
    chain_iterated : (k n : ℕ) (s t : S) → Stepped view R n s t → iterated step codes (n + k) (state s) ≡ iterated step codes k (state t)
    chain_iterated k n s t here = let z : 0 + k ≡ k = omega arith in ap (λ m. iterated step codes m (state s)) z
    chain_iterated k n s u (on {n = m} {t = t} chain working e) =
        let z : suc m + k ≡ m + suc k = omega arith in
        ap (λ x. iterated step codes x (state s)) z
        ∙ chain_iterated (suc k) m s t chain
        ∙ iterated_on k (state t) (sym (shows t) ∙ working)
        ∙ ap (iterated step codes k) (sym (goes_on t u e))

    ran_state : (budget n : ℕ) (s t : S) → Stepped view R n s t → n ≤ budget → ((view t).status ≡ Working → n ≡ budget) → state t ≡ iterated step codes budget (state s)
    ran_state budget n s t chain within spent =
        let z : n + (budget - n) ≡ budget = omega arith in
        let left : iterated step codes (budget - n) (state t) ≡ state t = ⊎_elim
        (λ (w : (state t).status ≡ Working). iterated_none (budget - n) (state t) (omega (arith, spent (shows t ∙ w))))
        (iterated_ended (budget - n) (state t))
        (cases_working (state t).status) in
        sym left ∙ sym (chain_iterated (budget - n) n s t chain) ∙ ap (λ m. iterated step codes m (state s)) z

    -- at the end of a run
    pub run_written : (top stated budget : ℕ) (s t : S) (r : Outcome) → Stepped view R (steps_of r) s t → Answers top stated codes budget (view t) r → state t ≡ iterated step codes budget (state s)
    run_written top stated budget s t r chain a =
        let count : steps_of r ≡ (view t).age = ap steps_of a.answer ∙ steps_outcome (view t).status (view t).age in
        ran_state budget (steps_of r) s t chain (omega (arith, a.within)) (λ w. count ∙ a.spent w)
