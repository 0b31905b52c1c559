-- A step that moves, and one that changes nothing. Rests on specs/States and specs/Walking.
use Rattle.std.proofs.Common.{◌≡◌, ℕ, ◌<◌, ◌≤◌, Bool, false, ◌⊎◌, List, sym, refl, ap, ◌∙◌, subst, inl, inr, ⊎_elim, arith}
use Rattle.std.proofs.lemmas.Bool.{and_from, and_left, and_right, cond-true, cond-false, lt-ltb, le-ltb}
use Rattle.search.specs.Limits.{age_limit}
use Rattle.search.specs.Meanings.{seen_with}
use Rattle.search.specs.Searching.{Moved}
use Rattle.search.specs.States.{State, is_working, stepped}
use Rattle.search.specs.declared.status.Status.{Status}
use Rattle.search.specs.declared.status.Status.TheVariants.{Working, Found, Refuted}
use Rattle.search.proofs.Conflicts.{working_not_found, working_not_refuted}
use Rattle.search.proofs.Steady.{Steady}

pub not_working : (s : Status) → (s ≡ Working → ⊥) → is_working s ≡ false
not_working Working n = absurd (n refl)
not_working Found n = refl
not_working Refuted n = refl

pub on_stepped : (move : State → List ℕ → State) (codes : List ℕ) (s t : State) → s.status ≡ Working → s.age < age_limit → t ≡ move s codes → t ≡ stepped move s codes
unfolding stepped
on_stepped move codes s t w young e = e ∙ sym (cond-true _ (move s codes) s (and_from (is_working s.status) _ (ap is_working w) (lt-ltb _ _ young)))

at_rest : (move : State → List ℕ → State) (codes : List ℕ) (s : State) → (s.status ≡ Working → ⊥) ⊎ (age_limit ≤ s.age) → s ≡ stepped move s codes
unfolding stepped
at_rest move codes s (inl n) = sym (cond-false _ (move s codes) s (and_left (is_working s.status) _ (not_working s.status n)))
at_rest move codes s (inr old) = sym (cond-false _ (move s codes) s (and_right (is_working s.status) _ (le-ltb _ _ old)))

module _ {S : Type 0} (state : S → State) (reserve : Status → ℕ → List Bool → ℕ) (move : State → List ℕ → State) (codes : List ℕ) where
  -- what a searcher's step has to show, of a machine that holds such states
  abbrev Done : S → S → Type 0
  Done x y = record {
    moves : Unit {0} → (state x).status ≡ Working → (state x).age < age_limit → Moved codes (seen_with reserve (state x)) (seen_with reserve (state y));
    rests : ((state x).status ≡ Working → ⊥) ⊎ (age_limit ≤ (state x).age) → y ≡ x;
    steps : state y ≡ stepped move (state x) codes;
  }

  pub moving : {Fit : State → Type 0} (x y : S) → (state x).status ≡ Working → (state x).age < age_limit → Steady (seen_with reserve) Fit codes (state x) (move (state x) codes) → state y ≡ move (state x) codes → Done x y
  moving x y working young steady is = record {
    moves = λ _ _ _. subst (λ t. Moved codes (seen_with reserve (state x)) (seen_with reserve t)) (sym is) steady.moved;
    rests = ⊎_elim (λ idle. absurd (idle working)) (λ old. absurd (omega arith));
    steps = on_stepped move codes (state x) (state y) working young is;
  }

  pub resting : (x : S) → ((state x).status ≡ Working → ⊥) ⊎ (age_limit ≤ (state x).age) → Done x x
  resting x idle = record {
    moves = λ _ working young. ⊎_elim (λ n. absurd (n working)) (λ old. absurd (omega arith)) idle;
    rests = λ _. refl;
    steps = at_rest move codes (state x) idle;
  }

pub ended : {s : Status} → (s ≡ Found) ⊎ (s ≡ Refuted) → s ≡ Working → ⊥
ended (inl f) w = working_not_found (sym w ∙ f)
ended (inr r) w = working_not_refuted (sym w ∙ r)
