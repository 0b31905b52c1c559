-- The grammar: which token lists are a part, a conjunction, a disjunction or a rule, and with which tree. Rests on Names.
use Rattle.std.specs.Prelude.{ℕ, List, [], ◌∷◌, ◌++◌}
use Rattle.formula.specs.Tree.{leaf, not, and, or, then}
use Rattle.grammar.specs.Names.{Phrase}
use Rattle.grammar.specs.declared.name.Named.{Named}
use Rattle.grammar.specs.declared.token.Token.{Token}
use Rattle.grammar.specs.declared.token.Token.TheVariants.{Open, Close, Name, With, Not, And, Or, Then}
use Rattle.grammar.specs.declared.level.Level.{Level}
use Rattle.grammar.specs.declared.level.Level.TheVariants.{Rule, Disjunction, Conjunction, Part}

-- two names with `with` between them
abbrev pub pair : ℕ → Named → Named → Phrase
pair p a b = leaf (record { place = p; first = a; second = b })

-- `and` and `or` group from the left; `then` has a rule on its right, so it groups from the right
pub data Is : Level → List Token → Phrase → Type 0 where
  pair_part : {p : ℕ} {a b : Named} → Is Part (Name a ∷ With p ∷ Name b ∷ []) (pair p a b)
  not_part : {p : ℕ} {ts : List Token} {t : Phrase} → Is Part ts t → Is Part (Not p ∷ ts) (not p t)
  parens : {ts : List Token} {t : Phrase} → Is Rule ts t → Is Part (Open ∷ (ts ++ Close ∷ [])) t
  one_part : {ts : List Token} {t : Phrase} → Is Part ts t → Is Conjunction ts t
  and_conjunction : {p : ℕ} {xs ys : List Token} {a b : Phrase} → Is Conjunction xs a → Is Part ys b → Is Conjunction (xs ++ And p ∷ ys) (and p a b)
  one_conjunction : {ts : List Token} {t : Phrase} → Is Conjunction ts t → Is Disjunction ts t
  or_disjunction : {p : ℕ} {xs ys : List Token} {a b : Phrase} → Is Disjunction xs a → Is Conjunction ys b → Is Disjunction (xs ++ Or p ∷ ys) (or p a b)
  one_disjunction : {ts : List Token} {t : Phrase} → Is Disjunction ts t → Is Rule ts t
  then_rule : {p : ℕ} {xs ys : List Token} {a b : Phrase} → Is Disjunction xs a → Is Rule ys b → Is Rule (xs ++ Then p ∷ ys) (then p a b)
