-- What a phrase so far is, by the token behind it.
use Rattle.std.proofs.Common.{◌≡◌, ℕ, suc, ◌+◌, true, List, [], ◌∷◌, ◌++◌, Some, None, refl, arith}
use mathlib.Core.Bool.{false≢true}
use Rattle.grammar.specs.declared.token.Token.{Token}
use Rattle.grammar.specs.declared.token.Token.TheVariants.{Open, Close, Name, With, Not, And, Or, Then}
use Rattle.grammar.specs.declared.climb.Connective.{Connective}
use Rattle.grammar.specs.declared.climb.Connective.TheVariants as op
use Rattle.grammar.specs.declared.level.Level.{Level}
use Rattle.grammar.specs.declared.level.Level.TheVariants.{Rule, Disjunction, Conjunction, Part}
use Rattle.formula.specs.Tree.{and, or, then}
use Rattle.grammar.specs.Names.{Phrase, names_of, numbered}
use Rattle.grammar.specs.declared.name.Named.{Named}
use Rattle.grammar.specs.Reads.{Reads, pair_read, not_read, parens_read, part_read, and_read, conjunction_read, or_read, disjunction_read, then_read}
use Rattle.formula.specs.Table.{top, post}
use Rattle.grammar.specs.Words.{words}
use Rattle.grammar.specs.Climbing.{over_part, over_joint, over_choice, continues, token_of, right_level, join_node, Stops}

pub some_none : {X : Type 0} {x : X} → Some x ≡ None → ⊥
some_none e = cc

abbrev pub Head : List Token → Token → List Token → Phrase → Type 0
Head ts Open m a = Unit {0}
Head ts Close m a = Unit {0}
Head ts (Name b) m a = Unit {0}
Head ts (With p) m a = Unit {0}
Head ts (Not p) m a = Unit {0}
Head ts (And p) m a = Reads Conjunction ts (And p ∷ m) a
Head ts (Or p) m a = Reads Disjunction ts (Or p ∷ m) a
Head ts (Then p) m a = Reads Disjunction ts (Then p ∷ m) a

-- the tokens ts up to r are what the word at the head of r takes on its left
abbrev pub Ready : List Token → List Token → Phrase → Type 0
Ready ts [] a = Unit {0}
Ready ts (k ∷ m) a = Head ts k m a

pub ready_joint : {ts : List Token} {a : Phrase} (r : List Token) → Reads Conjunction ts r a → Ready ts r a
ready_joint [] x = tt
ready_joint (Open ∷ m) x = tt
ready_joint (Close ∷ m) x = tt
ready_joint (Name b ∷ m) x = tt
ready_joint (With p ∷ m) x = tt
ready_joint (Not p ∷ m) x = tt
ready_joint (And p ∷ m) x = x
ready_joint (Or p ∷ m) x = conjunction_read x
ready_joint (Then p ∷ m) x = conjunction_read x

ready_choice : {ts : List Token} {a : Phrase} (r : List Token) → Stops Conjunction r → Reads Disjunction ts r a → Ready ts r a
ready_choice [] s x = tt
ready_choice (Open ∷ m) s x = tt
ready_choice (Close ∷ m) s x = tt
ready_choice (Name b ∷ m) s x = tt
ready_choice (With p ∷ m) s x = tt
ready_choice (Not p ∷ m) s x = tt
ready_choice (And p ∷ m) s x = absurd (some_none s)
ready_choice (Or p ∷ m) s x = x
ready_choice (Then p ∷ m) s x = x

ready_rule : (ts : List Token) (a : Phrase) (r : List Token) → Stops Rule r → Ready ts r a
ready_rule ts a [] s = tt
ready_rule ts a (Open ∷ m) s = tt
ready_rule ts a (Close ∷ m) s = tt
ready_rule ts a (Name b ∷ m) s = tt
ready_rule ts a (With p ∷ m) s = tt
ready_rule ts a (Not p ∷ m) s = tt
ready_rule ts a (And p ∷ m) s = absurd (some_none s)
ready_rule ts a (Or p ∷ m) s = absurd (some_none s)
ready_rule ts a (Then p ∷ m) s = absurd (some_none s)

pub from_part : {ts r : List Token} {t : Phrase} (l : Level) → Reads Part ts r t → Reads l ts r t
from_part Rule x = disjunction_read (conjunction_read (part_read x))
from_part Disjunction x = conjunction_read (part_read x)
from_part Conjunction x = part_read x
from_part Part x = x

from_joint : {ts r : List Token} {t : Phrase} (l : Level) → over_part l ≡ true → Reads Conjunction ts r t → Reads l ts r t
from_joint Rule e x = disjunction_read (conjunction_read x)
from_joint Disjunction e x = conjunction_read x
from_joint Conjunction e x = x
from_joint Part e x = absurd (false≢true e)

from_choice : {ts r : List Token} {t : Phrase} (l : Level) → over_joint l ≡ true → Reads Disjunction ts r t → Reads l ts r t
from_choice Rule e x = disjunction_read x
from_choice Disjunction e x = x
from_choice Conjunction e x = absurd (false≢true e)
from_choice Part e x = absurd (false≢true e)

from_rule : {ts r : List Token} {t : Phrase} (l : Level) → over_choice l ≡ true → Reads Rule ts r t → Reads l ts r t
from_rule Rule e x = x
from_rule Disjunction e x = absurd (false≢true e)
from_rule Conjunction e x = absurd (false≢true e)
from_rule Part e x = absurd (false≢true e)

abbrev pub join : Connective → Phrase → Phrase → Phrase
join (op.And p) a b = and p a b
join (op.Or p) a b = or p a b
join (op.Then p) a b = then p a b

-- a word, its left side and its right side
pub joins : {m : List Token} {b : Phrase} (l : Level) (ts : List Token) (a : Phrase) (j : Connective) (r : List Token) → continues j l ≡ true
    → Head ts (token_of j) m a → Reads (right_level j) m r b → Stops (right_level j) r
    → Reads l ts r (join j a b) × Ready ts r (join j a b)
joins l ts a (op.And p) r e h x s = (from_joint l e (and_read h x), ready_joint r (and_read h x))
joins l ts a (op.Or p) r e h x s = (from_choice l e (or_read h x), ready_choice r s (or_read h x))
joins {b = b} l ts a (op.Then p) r e h x s = (from_rule l e (then_read h x), ready_rule ts (then p a b) r s)

-- the node of a word, behind those of its parts; and its names
pub record Shape (ns : List Named) (j : Connective) (n : ℕ) (a b : Phrase) : Type 0 where
  pub index : top n (join j a b) ≡ suc (top (suc (top n a)) b)
  pub names : names_of (join j a b) ≡ names_of a ++ names_of b
  pub nodes : post n (numbered ns (join j a b))
      ≡ post n (numbered ns a) ++ (post (suc (top n (numbered ns a))) (numbered ns b)
      ++ join_node j (top n (numbered ns a)) (top (suc (top n (numbered ns a))) (numbered ns b)) ∷ [])

pub shape : (ns : List Named) (j : Connective) (n : ℕ) (a b : Phrase) → Shape ns j n a b
shape ns (op.And p) n a b = record { index = refl; names = refl; nodes = refl }
shape ns (op.Or p) n a b = record { index = refl; names = refl; nodes = refl }
shape ns (op.Then p) n a b = record { index = refl; names = refl; nodes = refl }

-- each word is one node
pub counted : {l : Level} {ts r : List Token} {t : Phrase} → Reads l ts r t → (n : ℕ) → suc (top n t) + words r ≡ n + words ts
counted pair_read n = omega arith
counted (not_read x) n = let h = counted x n in omega arith
counted (parens_read x) n = let h = counted x n in omega arith
counted (part_read x) n = counted x n
counted (and_read {a = a} x y) n = let h = counted x n in let g = counted y (suc (top n a)) in omega arith
counted (conjunction_read x) n = counted x n
counted (or_read {a = a} x y) n = let h = counted x n in let g = counted y (suc (top n a)) in omega arith
counted (disjunction_read x) n = counted x n
counted (then_read {a = a} x y) n = let h = counted x n in let g = counted y (suc (top n a)) in omega arith
