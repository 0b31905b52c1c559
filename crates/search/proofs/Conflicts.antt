-- What a clause that is false tells of the open assignments, and what it tells that there is none. Rests on clauses' Statements.
use Rattle.std.proofs.Common.{◌≡◌, ℕ, ◌≤◌, Bool, List, length, Some, None, Option, sym, subst, ⊎_elim, arith}
use Rattle.clauses.specs.Meaning.{Assignment, MeetsAll, assigned}
use Rattle.clauses.specs.Falsity.{first_false_row}
use Rattle.clauses.proofs.Tells.{told_as, told_all_as}
use Rattle.search.specs.States.{last_false}
use Rattle.search.specs.Meanings.{Ahead}
use Rattle.search.specs.declared.status.Status.TheVariants.{Working, Found, Refuted}
use Rattle.search.proofs.Order.{Same, same_extends, Onward, ahead_onward}

module _ (top : ℕ) (values : List Bool) (codes : List ℕ) where
  -- with a false clause, what meets all the clauses and is ahead comes after the last false
  pub conflict_onward : (row : ℕ) → first_false_row top values codes ≡ Some row → (o : Option ℕ) → last_false values ≡ o → (α : Assignment) → MeetsAll top codes α → Ahead 1 values α → Onward 1 values α o
  conflict_onward row e o l α m a =
      let t = told_as top values codes (Some row) (sym e) in
      ⊎_elim
      (λ (s : Same 1 values α). absurd (t.1 α (same_extends values α s) (m row t.0)))
      (λ (n : Onward 1 values α (last_false values)). subst (Onward 1 values α) l n)
      (ahead_onward values 1 α a)

  pub full_meets : first_false_row top values codes ≡ None → top ≤ length values → MeetsAll top codes (assigned values)
  full_meets e all = told_all_as top values codes None (sym e) all

pub working_not_found : Working ≡ Found → ⊥
working_not_found e = let z : ◌≡◌ {A = ℕ} 0 1 = cc in omega arith

pub working_not_refuted : Working ≡ Refuted → ⊥
working_not_refuted e = let z : ◌≡◌ {A = ℕ} 0 1 = cc in omega arith

pub found_not_refuted : Found ≡ Refuted → ⊥
found_not_refuted e = let z : ◌≡◌ {A = ℕ} 0 1 = cc in omega arith
