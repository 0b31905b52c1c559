-- Every state can be completed.
use Rattle.std.proofs.Common.{◌≡◌, ℕ, zero, suc, true, ◌≢◌, List, [], ◌∷◌, ◌++◌, Some, None, Option, sym, refl, ap, ◌∙◌}
use mathlib.Core.Bool.{false≢true}
use Rattle.grammar.specs.declared.token.Token.{Token}
use Rattle.grammar.specs.declared.token.Token.TheVariants.{Close, Name, With}
use Rattle.grammar.specs.Names.{stored}
use Rattle.grammar.specs.declared.name.Named.{Named}
use Rattle.grammar.specs.declared.state.State.{State}
use Rattle.grammar.specs.declared.state.State.TheVariants.{WantPart, HaveName, WantName, HavePart}
use Rattle.grammar.specs.Automaton.{advance, run, start, complete, accepted}
use Rattle.grammar.specs.Laws.{ViablePrefix}
use Rattle.grammar.proofs.Complete.{accepts}
use Rattle.grammar.proofs.Sound.{derived}

pub run_append : (o : Option State) (xs ys : List Token) → run o (xs ++ ys) ≡ run (run o xs) ys
run_append o [] ys = refl
run_append o (x ∷ xs) ys = run_append (advance o x) xs ys

pub run_lost : (ts : List Token) → run None ts ≡ None
run_lost [] = refl
run_lost (k ∷ ts) = run_lost ts

closes : ℕ → List Token
closes zero = []
closes (suc d) = Close ∷ closes d

closes_ends : (d : ℕ) → complete (run (Some (HavePart d)) (closes d)) ≡ true
unfolding closes
closes_ends zero = refl
closes_ends (suc d) = closes_ends d

-- a name that is good enough
some_name : Named
some_name = record { place = 0; name = stored (65 ∷ []) }

pub completion : (s : State) → (more : List Token) × (complete (run (Some s) more) ≡ true)
completion (WantPart d) = (Name some_name ∷ With 0 ∷ Name some_name ∷ closes d, closes_ends d)
completion (HaveName d) = (With 0 ∷ Name some_name ∷ closes d, closes_ends d)
completion (WantName d) = (Name some_name ∷ closes d, closes_ends d)
completion (HavePart d) = (closes d, closes_ends d)

completed : (o : Option State) → o ≢ None → (more : List Token) × (complete (run o more) ≡ true)
completed None h = absurd (h refl)
completed (Some s) h = completion s

pub viable : ViablePrefix
viable ts k h e =
    let c = completed (run start ts) h in
    let g : accepted (ts ++ c.0) ≡ true = ap complete (run_append start ts c.0) ∙ c.1 in (
      (let t = derived (ts ++ c.0) g in (c.0, t.0, t.1)),
      (λ more t x.
          let lost_there : run start (ts ++ k ∷ more) ≡ None
          = run_append start ts (k ∷ more) ∙ ap (λ o. run o more) (sym (run_append start ts (k ∷ [])) ∙ e) ∙ run_lost more in
          false≢true (sym (ap complete lost_there) ∙ accepts x)),
    )
