-- What holds of a searcher that has begun and taken n steps, and what it answers at the end. Rests on specs/Searching.
use Rattle.std.proofs.Common.{◌≡◌, ℕ, ◌+◌, ◌<◌, ◌≤◌, List, sym, ap, ◌∙◌, subst, add-one, arith}
use Rattle.clauses.specs.Meaning.{Assignment, MeetsAll}
use Rattle.search.specs.Searching.{View, Begun, Moved, Stepped, on, Answers, outcome}
use Rattle.search.specs.declared.status.Status.TheVariants.{Working, Found, Refuted}
use Rattle.search.specs.declared.outcome.Outcome.{Outcome}
use Rattle.search.proofs.Conflicts.{working_not_found, working_not_refuted, found_not_refuted}

pub record Standing (top stated : ℕ) (codes : List ℕ) (n : ℕ) (s : View) : Type 0 where
  pub at_sound : s.sound
  pub at_variables : s.variables ≡ top
  pub at_age : s.age ≡ n
  pub at_reserve : s.reserve + n ≤ stated
  pub at_open : (s.status ≡ Found → ⊥) → (α : Assignment) → MeetsAll top codes α → s.admits α
  pub at_found : s.status ≡ Found → MeetsAll top codes s.shown
  pub at_refuted : s.status ≡ Refuted → (α : Assignment) → s.admits α → ⊥

pub stepped_more : {S : Type 0} {view : S → View} {step : S → S → Type 0} {s t u : S} (n : ℕ) → Stepped view step n s t → (view t).status ≡ Working → step t u → Stepped view step (n + 1) s u
stepped_more n r w e = rw add-one (on r w e)

module _ (top stated : ℕ) (codes : List ℕ) where
  pub standing_begun : (s : View) → Begun top stated s → Standing top stated codes 0 s
  standing_begun s b = record {
    at_sound = b.begun_sound;
    at_variables = b.begun_variables;
    at_age = b.begun_age;
    at_reserve = omega (arith, b.begun_reserve);
    at_open = λ _ α _. b.begun_open α;
    at_found = λ f. absurd (working_not_found (sym b.begun_status ∙ f));
    at_refuted = λ f. absurd (working_not_refuted (sym b.begun_status ∙ f));
  }

  pub standing_moved : (n : ℕ) (s t : View) → Standing top stated codes n s → s.status ≡ Working → Moved codes s t → Standing top stated codes (n + 1) t
  standing_moved n s t at working m =
      let P : ℕ → Assignment → Type 0 = λ k α. MeetsAll k codes α in
      record {
        at_sound = m.stays_sound;
        at_variables = m.same_variables ∙ at.at_variables;
        at_age = m.more_age ∙ ap (λ k. k + 1) at.at_age;
        at_reserve = omega (arith, m.less_reserve, at.at_reserve);
        at_open = λ nf α meets. m.keeps nf α (subst (λ k. P k α) (sym at.at_variables) meets) (at.at_open (λ f. working_not_found (sym working ∙ f)) α meets);
        at_found = λ f. subst (λ k. P k t.shown) at.at_variables (m.finds f);
        at_refuted = m.refutes;
      }

  -- at the end of a run with this budget
  pub standing_answers : (n budget : ℕ) (s : View) (r : Outcome) → Standing top stated codes n s → n ≤ budget → (s.status ≡ Working → n ≡ budget) → (s.status ≡ Working → 0 < s.reserve) → r ≡ outcome s.status n → Answers top stated codes budget s r
  standing_answers n budget s r at within spent lively is = record {
    over = at.at_variables;
    answer = is ∙ ap (outcome s.status) (sym at.at_age);
    within = omega (arith, at.at_age);
    found = at.at_found;
    none = λ w α meets. at.at_refuted w α (at.at_open (λ f. found_not_refuted (sym f ∙ w)) α meets);
    spent = λ w. at.at_age ∙ spent w;
    enough = λ e w. omega (arith, spent w, lively w, at.at_reserve);
  }
