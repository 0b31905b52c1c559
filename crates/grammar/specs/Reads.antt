-- The grammar once more, with the tokens that are left behind a phrase.
use Rattle.std.specs.Prelude.{ℕ, List, ◌∷◌}
use Rattle.grammar.specs.declared.token.Token.{Token}
use Rattle.grammar.specs.declared.token.Token.TheVariants.{Open, Close, Name, With, Not, And, Or, Then}
use Rattle.grammar.specs.declared.level.Level.{Level}
use Rattle.grammar.specs.declared.level.Level.TheVariants.{Rule, Disjunction, Conjunction, Part}
use Rattle.formula.specs.Tree.{not, and, or, then}
use Rattle.grammar.specs.Names.{Phrase}
use Rattle.grammar.specs.declared.name.Named.{Named}
use Rattle.grammar.specs.Grammar.{pair}

-- `Reads l ts r t`: the tokens ts are a phrase of level l with the tree t, and then r
pub data Reads : Level → List Token → List Token → Phrase → Type 0 where
  pair_read : {p : ℕ} {a b : Named} {r : List Token} → Reads Part (Name a ∷ With p ∷ Name b ∷ r) r (pair p a b)
  not_read : {p : ℕ} {ts r : List Token} {t : Phrase} → Reads Part ts r t → Reads Part (Not p ∷ ts) r (not p t)
  parens_read : {ts r : List Token} {t : Phrase} → Reads Rule ts (Close ∷ r) t → Reads Part (Open ∷ ts) r t
  part_read : {ts r : List Token} {t : Phrase} → Reads Part ts r t → Reads Conjunction ts r t
  and_read : {p : ℕ} {ts m r : List Token} {a b : Phrase} → Reads Conjunction ts (And p ∷ m) a → Reads Part m r b → Reads Conjunction ts r (and p a b)
  conjunction_read : {ts r : List Token} {t : Phrase} → Reads Conjunction ts r t → Reads Disjunction ts r t
  or_read : {p : ℕ} {ts m r : List Token} {a b : Phrase} → Reads Disjunction ts (Or p ∷ m) a → Reads Conjunction m r b → Reads Disjunction ts r (or p a b)
  disjunction_read : {ts r : List Token} {t : Phrase} → Reads Disjunction ts r t → Reads Rule ts r t
  then_read : {p : ℕ} {ts m r : List Token} {a b : Phrase} → Reads Disjunction ts (Then p ∷ m) a → Reads Rule m r b → Reads Rule ts r (then p a b)
