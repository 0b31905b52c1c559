-- Faults in the words of the automaton, and in those of the grammar.
use Rattle.std.proofs.Common.{◌≡◌, ℕ, Bool, false, List, ◌∷◌, ◌++◌, Some, None, Option, sym, refl, ap, ◌∙◌}
use Rattle.std.proofs.lemmas.Bool.{false≢true, false_from_ne_true}
use Rattle.grammar.specs.declared.state.State.{State}
use Rattle.grammar.specs.declared.state.State.TheVariants.{WantPart}
use Rattle.grammar.specs.declared.token.Token.{Token}
use Rattle.grammar.specs.Automaton.{step, run, start, ended, complete, accepted}
use Rattle.grammar.proofs.Complete.{accepts}
use Rattle.grammar.proofs.Sound.{derived}
use Rattle.grammar.proofs.Hopes.{never}
use Rattle.grammar.proofs.Prefixes.{run_append, completion}
use Rattle.reading.specs.Faults.{Cause, not_apart, no_token, long_name, out_of_grammar, unfinished, Viable, Refused, NoRule, Faulty}
use Rattle.reading.specs.declared.fault.RuleFault.{RuleFault}
use Rattle.reading.proofs.Outcomes.{Explained}

-- the state behind tokens from the start of a line
abbrev pub state : List Token → Option State
state ts = run start ts

behind : (ts more : List Token) → accepted (ts ++ more) ≡ complete (run (state ts) more)
behind ts more = ap complete (run_append start ts more)

-- tokens that led to a state, and how a rule may go on behind them
module _ (ts : List Token) (q : State) (e : state ts ≡ Some q) where
  behind_state : (more : List Token) → accepted (ts ++ more) ≡ complete (run (Some q) more)
  behind_state more = behind ts more ∙ ap (λ o. complete (run o more)) e

  viable : Viable ts
  viable =
      let c = completion q in
      let t = derived (ts ++ c.0) (behind_state c.0 ∙ c.1) in
      (c.0, t.0, t.1)

  refused : (k : Token) → step q k ≡ None → Refused ts k
  refused k f more t x = never more (sym (ap (λ o. complete (run o more)) f) ∙ sym (behind_state (k ∷ more)) ∙ accepts x)

  refused_back : (k : Token) → Refused ts k → step q k ≡ None
  refused_back k r = go (step q k) refl
    where
      go : (o : Option State) → step q k ≡ o → o ≡ None
      go None f = refl
      go (Some v) f =
          let c = completion v in
          let t = derived (ts ++ k ∷ c.0) (behind_state (k ∷ c.0) ∙ ap (λ o. complete (run o c.0)) f ∙ c.1) in
          absurd (r c.0 t.0 t.1)

  no_rule : ended q ≡ false → NoRule ts
  no_rule f t x = false≢true (sym f ∙ sym (ap complete e) ∙ accepts x)

  no_rule_back : NoRule ts → ended q ≡ false
  no_rule_back n = false_from_ne_true (ended q) (λ f. let t = derived ts (ap complete e ∙ f) in n t.0 t.1)

viable_back : (ts : List Token) → Viable ts → (q : State) × (state ts ≡ Some q)
viable_back ts v = go (state ts) refl
  where
    go : (o : Option State) → state ts ≡ o → (q : State) × (o ≡ Some q)
    go None e = absurd (never v.0 (sym (ap (λ o. complete (run o v.0)) e) ∙ sym (behind ts v.0) ∙ accepts v.2))
    go (Some q) e = (q, refl)

same_cause : {Out In : Token → Type 0} {Undone Done : Type 0} {t : Bool} {p : ℕ} {r : List ℕ} {f : RuleFault}
    → ((k : Token) → Out k → In k) → (Undone → Done) → Cause Out Undone t p r f → Cause In Done t p r f
same_cause g h (not_apart a e) = not_apart a e
same_cause g h (no_token a n x y) = no_token a n x y
same_cause g h (long_name a x) = long_name a x
same_cause g h (out_of_grammar {k = k} a x o) = out_of_grammar a x (g k o)
same_cause g h (unfinished u) = unfinished (h u)

pub faulty : (bs : List ℕ) (f : RuleFault) → Explained false (WantPart 0) 0 bs f → Faulty bs f
faulty bs f x =
    record {
      before = x.0;
      place = x.1;
      left = x.2;
      joined = x.3;
      spelt = x.4;
      viable = viable x.0 x.5 x.6;
      cause = same_cause (refused x.0 x.5 x.6) (no_rule x.0 x.5 x.6) x.7;
    }

pub faulty_back : (bs : List ℕ) (f : RuleFault) → Faulty bs f → Explained false (WantPart 0) 0 bs f
faulty_back bs f x =
    let v = viable_back x.before x.viable in (
      x.before,
      x.place,
      x.left,
      x.joined,
      x.spelt,
      v.0,
      v.1,
      same_cause (refused_back x.before v.0 v.1) (no_rule_back x.before v.0 v.1) x.cause,
    )
