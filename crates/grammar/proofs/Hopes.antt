-- Where the automaton cannot end.
use Rattle.std.proofs.Common.{◌≡◌, ℕ, suc, true, List, [], ◌∷◌, Some, None, Option, sym, refl, ap, ◌∙◌}
use mathlib.Core.Bool.{false≢true}
use Rattle.grammar.specs.declared.token.Token.{Token}
use Rattle.grammar.specs.declared.token.Token.TheVariants.{Open, Close, Name, With, Not, And, Or, Then}
use Rattle.grammar.specs.declared.climb.Connective.{Connective}
use Rattle.grammar.specs.declared.climb.Connective.TheVariants as op
use Rattle.grammar.specs.declared.level.Level.{Level}
use Rattle.grammar.specs.declared.level.Level.TheVariants.{Rule}
use Rattle.grammar.specs.Names.{Phrase}
use Rattle.grammar.specs.declared.name.Named.{Named}
use Rattle.grammar.specs.Reads.{Reads}
use Rattle.grammar.specs.declared.state.State.TheVariants.{WantPart, HaveName, WantName, HavePart}
use Rattle.grammar.specs.Automaton.{run, complete}
use Rattle.grammar.specs.Climbing.{token_of, closer, Linked, linked, name_first, Hopeless, Stops}
use Rattle.grammar.proofs.Complete.{moves}
use Rattle.grammar.proofs.Prefixes.{run_lost}
use Rattle.grammar.proofs.Ready.{some_none}

-- from a state that is lost at the next token nothing ends
pub never : (ks : List Token) → complete (run None ks) ≡ true → ⊥
never ks e = false≢true (sym (ap complete (run_lost ks)) ∙ e)

-- behind a part, at every depth
abbrev pub EndsNowhere : List Token → Type 0
EndsNowhere r = (d : ℕ) → complete (run (Some (HavePart d)) r) ≡ true → ⊥

pub hopeless_after : {l : Level} {ts r : List Token} {t : Phrase} → Reads l ts r t → EndsNowhere r → Hopeless ts
hopeless_after x h d e = h d (sym (ap complete (moves x d)) ∙ e)

pub hopeless_word : (j : Connective) (m : List Token) → Hopeless m → EndsNowhere (token_of j ∷ m)
hopeless_word (op.And p) m h d e = h d e
hopeless_word (op.Or p) m h d e = h d e
hopeless_word (op.Then p) m h d e = h d e

-- a rule that no parenthesis closes
unclosed : (r : List Token) → Stops Rule r → closer r ≡ None → (d : ℕ) → complete (run (Some (HavePart (suc d))) r) ≡ true → ⊥
unclosed [] s c d e = false≢true e
unclosed (Open ∷ m) s c d e = never m e
unclosed (Close ∷ m) s c d e = some_none c
unclosed (Name b ∷ m) s c d e = never m e
unclosed (With p ∷ m) s c d e = never m e
unclosed (Not p ∷ m) s c d e = never m e
unclosed (And p ∷ m) s c d e = some_none s
unclosed (Or p ∷ m) s c d e = some_none s
unclosed (Then p ∷ m) s c d e = some_none s

pub hopeless_open : {l : Level} {ts r : List Token} {t : Phrase} → Reads l ts r t → Stops Rule r → closer r ≡ None → Hopeless (Open ∷ ts)
hopeless_open {r = r} x s c d e = unclosed r s c d (sym (ap complete (moves x (suc d))) ∙ e)

pub closer_is : (ks r : List Token) → closer ks ≡ Some r → ks ≡ Close ∷ r
closer_is [] r e = absurd (some_none (sym e))
closer_is (Open ∷ m) r e = absurd (some_none (sym e))
closer_is (Close ∷ m) r e = ap (λ s. Close ∷ s) (let f : m ≡ r = cc in f)
closer_is (Name b ∷ m) r e = absurd (some_none (sym e))
closer_is (With p ∷ m) r e = absurd (some_none (sym e))
closer_is (Not p ∷ m) r e = absurd (some_none (sym e))
closer_is (And p ∷ m) r e = absurd (some_none (sym e))
closer_is (Or p ∷ m) r e = absurd (some_none (sym e))
closer_is (Then p ∷ m) r e = absurd (some_none (sym e))

-- a name with no pair behind it
no_name : (p : ℕ) (ks : List Token) → name_first p ks ≡ None → (d : ℕ) → complete (run (Some (WantName d)) ks) ≡ true → ⊥
no_name p [] n d e = false≢true e
no_name p (Open ∷ m) n d e = never m e
no_name p (Close ∷ m) n d e = never m e
no_name p (Name b ∷ m) n d e = some_none n
no_name p (With q ∷ m) n d e = never m e
no_name p (Not q ∷ m) n d e = never m e
no_name p (And q ∷ m) n d e = never m e
no_name p (Or q ∷ m) n d e = never m e
no_name p (Then q ∷ m) n d e = never m e

unlinked : (ks : List Token) → linked ks ≡ None → (d : ℕ) → complete (run (Some (HaveName d)) ks) ≡ true → ⊥
unlinked [] n d e = false≢true e
unlinked (Open ∷ m) n d e = never m e
unlinked (Close ∷ m) n d e = never m e
unlinked (Name b ∷ m) n d e = never m e
unlinked (With p ∷ m) n d e = no_name p m n d e
unlinked (Not q ∷ m) n d e = never m e
unlinked (And q ∷ m) n d e = never m e
unlinked (Or q ∷ m) n d e = never m e
unlinked (Then q ∷ m) n d e = never m e

pub hopeless_name : (a : Named) (ks : List Token) → linked ks ≡ None → Hopeless (Name a ∷ ks)
hopeless_name a ks n d e = unlinked ks n d e

name_is : (w : ℕ) (ks : List Token) (p : ℕ) (b : Named) (r : List Token) → ◌≡◌ {A = Option Linked} (name_first w ks) (Some (p, b, r)) → With w ∷ ks ≡ With p ∷ Name b ∷ r
name_is w [] p b r e = absurd (some_none (sym e))
name_is w (Open ∷ m) p b r e = absurd (some_none (sym e))
name_is w (Close ∷ m) p b r e = absurd (some_none (sym e))
name_is w (Name c ∷ m) p b r e = let f : ◌≡◌ {A = Linked} (w, c, m) (p, b, r) = cc in ap (λ (x : Linked). With x.0 ∷ Name x.1 ∷ x.2) f
name_is w (With q ∷ m) p b r e = absurd (some_none (sym e))
name_is w (Not q ∷ m) p b r e = absurd (some_none (sym e))
name_is w (And q ∷ m) p b r e = absurd (some_none (sym e))
name_is w (Or q ∷ m) p b r e = absurd (some_none (sym e))
name_is w (Then q ∷ m) p b r e = absurd (some_none (sym e))

pub linked_is : (ks : List Token) (p : ℕ) (b : Named) (r : List Token) → ◌≡◌ {A = Option Linked} (linked ks) (Some (p, b, r)) → ks ≡ With p ∷ Name b ∷ r
linked_is [] p b r e = absurd (some_none (sym e))
linked_is (Open ∷ m) p b r e = absurd (some_none (sym e))
linked_is (Close ∷ m) p b r e = absurd (some_none (sym e))
linked_is (Name c ∷ m) p b r e = absurd (some_none (sym e))
linked_is (With q ∷ m) p b r e = name_is q m p b r e
linked_is (Not q ∷ m) p b r e = absurd (some_none (sym e))
linked_is (And q ∷ m) p b r e = absurd (some_none (sym e))
linked_is (Or q ∷ m) p b r e = absurd (some_none (sym e))
linked_is (Then q ∷ m) p b r e = absurd (some_none (sym e))

pub hopeless_other : (k : Token) (m : List Token) → (k ≡ Open → ⊥) → ((a : Named) → k ≡ Name a → ⊥) → ((p : ℕ) → k ≡ Not p → ⊥) → Hopeless (k ∷ m)
hopeless_other Open m f g h d e = f refl
hopeless_other Close m f g h d e = never m e
hopeless_other (Name a) m f g h d e = g a refl
hopeless_other (With p) m f g h d e = never m e
hopeless_other (Not p) m f g h d e = h p refl
hopeless_other (And p) m f g h d e = never m e
hopeless_other (Or p) m f g h d e = never m e
hopeless_other (Then p) m f g h d e = never m e

pub hopeless_empty : (ts : List Token) → ts ≡ [] → Hopeless ts
hopeless_empty ts z d e = false≢true (sym (ap (λ s. complete (run (Some (WantPart d)) s)) z) ∙ e)
