-- The tree of a token list, worked out token by token with a stack of what is unfinished.
use Rattle.std.specs.Prelude.{ℕ, List, [], ◌∷◌, Some, None, Option}
use Rattle.grammar.specs.declared.token.Token.{Token}
use Rattle.grammar.specs.declared.token.Token.TheVariants.{Open, Close, Name, With, Not, And, Or, Then}
use Rattle.formula.specs.Tree.{not, and, or, then}
use Rattle.grammar.specs.Names.{Phrase}
use Rattle.grammar.specs.declared.name.Named.{Named}
use Rattle.grammar.specs.Grammar.{pair}

-- What a part that is wanted will stand under, the innermost first.
pub data Stack : Type 0 where
  base : Stack
  under_open : Stack → Stack
  under_not : ℕ → Stack → Stack
  under_and under_or under_then : ℕ → Phrase → Stack → Stack

pub data Spot : Type 0 where
  want : Stack → Spot
  named : Named → Stack → Spot
  second : Named → ℕ → Stack → Spot
  have : Phrase → Stack → Spot
  lost : Spot

-- a part is complete: `not` and `and` take it at once
abbrev pub part_done : Phrase → Stack → Spot
part_done t base = have t base
part_done t (under_open s) = have t (under_open s)
part_done t (under_not p s) = part_done (not p t) s
part_done t (under_and p a s) = have (and p a t) s
part_done t (under_or p a s) = have t (under_or p a s)
part_done t (under_then p a s) = have t (under_then p a s)

-- a conjunction is complete: an `or` to its left takes it
abbrev pub conjunction_done : Phrase → Stack → Phrase × Stack
conjunction_done t base = (t, base)
conjunction_done t (under_open s) = (t, under_open s)
conjunction_done t (under_not p s) = (t, under_not p s)
conjunction_done t (under_and p a s) = (t, under_and p a s)
conjunction_done t (under_or p a s) = (or p a t, s)
conjunction_done t (under_then p a s) = (t, under_then p a s)

-- a disjunction is complete at the end of a rule: each `then` to its left takes it, the last one first
abbrev pub disjunction_done : Phrase → Stack → Phrase × Stack
disjunction_done t base = (t, base)
disjunction_done t (under_open s) = (t, under_open s)
disjunction_done t (under_not p s) = (t, under_not p s)
disjunction_done t (under_and p a s) = (t, under_and p a s)
disjunction_done t (under_or p a s) = (t, under_or p a s)
disjunction_done t (under_then p a s) = disjunction_done (then p a t) s

abbrev pub all_done : Phrase × Stack → Phrase × Stack
all_done p = disjunction_done p.0 p.1

abbrev pub close : Phrase → Stack → Spot
close t base = lost
close t (under_open s) = part_done t s
close t (under_not p s) = lost
close t (under_and p a s) = lost
close t (under_or p a s) = lost
close t (under_then p a s) = lost

abbrev pub closing : Phrase × Stack → Spot
closing p = close p.0 p.1

abbrev pub at_want : Stack → Token → Spot
at_want s Open = want (under_open s)
at_want s Close = lost
at_want s (Name a) = named a s
at_want s (With p) = lost
at_want s (Not p) = want (under_not p s)
at_want s (And p) = lost
at_want s (Or p) = lost
at_want s (Then p) = lost

abbrev pub at_named : Named → Stack → Token → Spot
at_named a s Open = lost
at_named a s Close = lost
at_named a s (Name b) = lost
at_named a s (With p) = second a p s
at_named a s (Not p) = lost
at_named a s (And p) = lost
at_named a s (Or p) = lost
at_named a s (Then p) = lost

abbrev pub at_second : Named → ℕ → Stack → Token → Spot
at_second a p s Open = lost
at_second a p s Close = lost
at_second a p s (Name b) = part_done (pair p a b) s
at_second a p s (With q) = lost
at_second a p s (Not q) = lost
at_second a p s (And q) = lost
at_second a p s (Or q) = lost
at_second a p s (Then q) = lost

abbrev pub or_next : ℕ → Phrase × Stack → Spot
or_next p q = want (under_or p q.0 q.1)

abbrev pub then_next : ℕ → Phrase × Stack → Spot
then_next p q = want (under_then p q.0 q.1)

abbrev pub at_have : Phrase → Stack → Token → Spot
at_have t s Open = lost
at_have t s Close = closing (all_done (conjunction_done t s))
at_have t s (Name b) = lost
at_have t s (With p) = lost
at_have t s (Not p) = lost
at_have t s (And p) = want (under_and p t s)
at_have t s (Or p) = or_next p (conjunction_done t s)
at_have t s (Then p) = then_next p (conjunction_done t s)

abbrev pub feed : Spot → Token → Spot
feed (want s) k = at_want s k
feed (named a s) k = at_named a s k
feed (second a p s) k = at_second a p s k
feed (have t s) k = at_have t s k
feed lost k = lost

abbrev pub feed_all : Spot → List Token → Spot
feed_all p [] = p
feed_all p (k ∷ ks) = feed_all (feed p k) ks

abbrev pub last_tree : Phrase → Stack → Option Phrase
last_tree t base = Some t
last_tree t (under_open s) = None
last_tree t (under_not p s) = None
last_tree t (under_and p a s) = None
last_tree t (under_or p a s) = None
last_tree t (under_then p a s) = None

abbrev pub whole : Phrase × Stack → Option Phrase
whole p = last_tree p.0 p.1

abbrev pub finish : Spot → Option Phrase
finish (want s) = None
finish (named a s) = None
finish (second a p s) = None
finish (have t s) = whole (all_done (conjunction_done t s))
finish lost = None

-- the tree of a token list that is a rule
abbrev pub parse : List Token → Option Phrase
parse ts = finish (feed_all (want base) ts)
