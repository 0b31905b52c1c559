-- The automaton and the parser go in step, and what they have taken is derived.
use Rattle.std.proofs.Common.{◌≡◌, ℕ, zero, suc, Bool, true, false, List, [], ◌∷◌, Some, None, Option, subst}
use mathlib.Core.Bool.{false≢true}
use Rattle.grammar.specs.Laws.{ParsedExactly, AcceptedExactly}
use Rattle.grammar.specs.declared.token.Token.{Token}
use Rattle.grammar.specs.declared.token.Token.TheVariants.{Open, Close, Name, With, Not, And, Or, Then}
use Rattle.grammar.specs.declared.level.Level.TheVariants.{Rule, Disjunction, Conjunction, Part}
use Rattle.grammar.specs.Names.{Phrase}
use Rattle.grammar.specs.declared.name.Named.{Named}
use Rattle.grammar.specs.Grammar.{Is}
use Rattle.grammar.specs.Reads.{Reads, pair_read, not_read, parens_read, part_read, and_read, conjunction_read, or_read, disjunction_read, then_read}
use Rattle.grammar.specs.Automaton as auto
use Rattle.grammar.specs.declared.state.State.TheVariants as stage
use Rattle.grammar.specs.declared.state.State.{State}
use Rattle.grammar.specs.Parser.{Stack, base, under_open, under_not, under_and, under_or, under_then, Spot, want, named, second, have, lost, part_done, conjunction_done, disjunction_done, all_done, closing, or_next, then_next, feed, feed_all, whole, finish, parse}
use Rattle.grammar.proofs.Complete.{parsed, accepts}
use Rattle.grammar.proofs.Lefts.{taken_all}

-- a conjunction may be complete here
abbrev Joins : Stack → Type 0
Joins base = Unit {0}
Joins (under_open s) = Unit {0}
Joins (under_not p s) = ⊥
Joins (under_and p a s) = ⊥
Joins (under_or p a s) = Unit {0}
Joins (under_then p a s) = Unit {0}

-- a disjunction may begin here
abbrev Chooses : Stack → Type 0
Chooses base = Unit {0}
Chooses (under_open s) = Unit {0}
Chooses (under_not p s) = ⊥
Chooses (under_and p a s) = ⊥
Chooses (under_or p a s) = ⊥
Chooses (under_then p a s) = Unit {0}

abbrev depth : Stack → ℕ
depth base = zero
depth (under_open s) = suc (depth s)
depth (under_not p s) = depth s
depth (under_and p a s) = depth s
depth (under_or p a s) = depth s
depth (under_then p a s) = depth s

-- `Pend all s r`: of the tokens `all` those before r have left the stack s, and a part is wanted
data Pend (all : List Token) : Stack → List Token → Type 0 where
  at_base : Pend all base all
  at_open : {s : Stack} {r : List Token} → Pend all s (Open ∷ r) → Pend all (under_open s) r
  at_not : {p : ℕ} {s : Stack} {r : List Token} → Pend all s (Not p ∷ r) → Pend all (under_not p s) r
  at_and : {p : ℕ} {s : Stack} {ts r : List Token} {a : Phrase} → Joins s → Pend all s ts → Reads Conjunction ts (And p ∷ r) a → Pend all (under_and p a s) r
  at_or : {p : ℕ} {s : Stack} {ts r : List Token} {a : Phrase} → Chooses s → Pend all s ts → Reads Disjunction ts (Or p ∷ r) a → Pend all (under_or p a s) r
  at_then : {p : ℕ} {s : Stack} {ts r : List Token} {a : Phrase} → Chooses s → Pend all s ts → Reads Disjunction ts (Then p ∷ r) a → Pend all (under_then p a s) r

-- the automaton's state and the parser's, before the tokens r
data At (all : List Token) : Option State → Spot → List Token → Type 0 where
  wants : {s : Stack} {r : List Token} → Pend all s r → At all (Some (stage.WantPart (depth s))) (want s) r
  names : {s : Stack} {r : List Token} {a : Named} → Pend all s (Name a ∷ r) → At all (Some (stage.HaveName (depth s))) (named a s) r
  seconds : {s : Stack} {r : List Token} {p : ℕ} {a : Named} → Pend all s (Name a ∷ With p ∷ r) → At all (Some (stage.WantName (depth s))) (second a p s) r
  haves : {s : Stack} {ts r : List Token} {t : Phrase} → Joins s → Pend all s ts → Reads Conjunction ts r t → At all (Some (stage.HavePart (depth s))) (have t s) r
  losts : {r : List Token} → At all None lost r

part_ok : {all : List Token} {s : Stack} {ts r : List Token} {t : Phrase} → Pend all s ts → Reads Part ts r t
    → At all (Some (stage.HavePart (depth s))) (part_done t s) r
part_ok at_base x = haves tt at_base (part_read x)
part_ok (at_open p) x = haves tt (at_open p) (part_read x)
part_ok (at_not p) x = part_ok p (not_read x)
part_ok (at_and j p y) x = haves j p (and_read y x)
part_ok (at_or c p y) x = haves tt (at_or c p y) (part_read x)
part_ok (at_then c p y) x = haves tt (at_then c p y) (part_read x)

close_ok : {all : List Token} {s : Stack} {ts r : List Token} {t : Phrase} → Pend all s ts → Chooses s → Reads Rule ts (Close ∷ r) t
    → At all (auto.closed (depth s)) (closing (disjunction_done t s)) r
close_ok at_base h x = losts
close_ok (at_open p) h x = part_ok p (parens_read x)
close_ok (at_not p) h x = absurd h
close_ok (at_and j p y) h x = absurd h
close_ok (at_or c p y) h x = absurd h
close_ok (at_then c p y) h x = close_ok p c (then_read y x)

all_close_ok : {all : List Token} {s : Stack} {ts r : List Token} {t : Phrase} → Pend all s ts → Joins s → Reads Conjunction ts (Close ∷ r) t
    → At all (auto.closed (depth s)) (closing (all_done (conjunction_done t s))) r
all_close_ok at_base h x = losts
all_close_ok (at_open p) h x = close_ok (at_open p) tt (disjunction_read (conjunction_read x))
all_close_ok (at_not p) h x = absurd h
all_close_ok (at_and j p y) h x = absurd h
all_close_ok (at_or c p y) h x = close_ok p c (disjunction_read (or_read y x))
all_close_ok (at_then c p y) h x = close_ok (at_then c p y) tt (disjunction_read (conjunction_read x))

or_ok : {p : ℕ} {all : List Token} {s : Stack} {ts r : List Token} {t : Phrase} → Pend all s ts → Joins s → Reads Conjunction ts (Or p ∷ r) t
    → At all (Some (stage.WantPart (depth s))) (or_next p (conjunction_done t s)) r
or_ok at_base h x = wants (at_or tt at_base (conjunction_read x))
or_ok (at_open p) h x = wants (at_or tt (at_open p) (conjunction_read x))
or_ok (at_not p) h x = absurd h
or_ok (at_and j p y) h x = absurd h
or_ok (at_or c p y) h x = wants (at_or c p (or_read y x))
or_ok (at_then c p y) h x = wants (at_or tt (at_then c p y) (conjunction_read x))

then_ok : {p : ℕ} {all : List Token} {s : Stack} {ts r : List Token} {t : Phrase} → Pend all s ts → Joins s → Reads Conjunction ts (Then p ∷ r) t
    → At all (Some (stage.WantPart (depth s))) (then_next p (conjunction_done t s)) r
then_ok at_base h x = wants (at_then tt at_base (conjunction_read x))
then_ok (at_open p) h x = wants (at_then tt (at_open p) (conjunction_read x))
then_ok (at_not p) h x = absurd h
then_ok (at_and j p y) h x = absurd h
then_ok (at_or c p y) h x = wants (at_then c p (or_read y x))
then_ok (at_then c p y) h x = wants (at_then tt (at_then c p y) (conjunction_read x))

from_want : {all : List Token} {s : Stack} {r : List Token} (k : Token) → Pend all s (k ∷ r) → At all (auto.at_want (depth s) k) (feed (want s) k) r
from_want Open p = wants (at_open p)
from_want Close p = losts
from_want (Name a) p = names p
from_want (With w) p = losts
from_want (Not w) p = wants (at_not p)
from_want (And w) p = losts
from_want (Or w) p = losts
from_want (Then w) p = losts

from_named : {all : List Token} {s : Stack} {r : List Token} {a : Named} (k : Token) → Pend all s (Name a ∷ k ∷ r) → At all (auto.at_named (depth s) k) (feed (named a s) k) r
from_named Open p = losts
from_named Close p = losts
from_named (Name b) p = losts
from_named (With w) p = seconds p
from_named (Not w) p = losts
from_named (And w) p = losts
from_named (Or w) p = losts
from_named (Then w) p = losts

from_second : {all : List Token} {s : Stack} {r : List Token} {q : ℕ} {a : Named} (k : Token) → Pend all s (Name a ∷ With q ∷ k ∷ r) → At all (auto.at_second (depth s) k) (feed (second a q s) k) r
from_second Open p = losts
from_second Close p = losts
from_second (Name b) p = part_ok p pair_read
from_second (With w) p = losts
from_second (Not w) p = losts
from_second (And w) p = losts
from_second (Or w) p = losts
from_second (Then w) p = losts

from_have : {all : List Token} {s : Stack} {ts r : List Token} {t : Phrase} (k : Token) → Joins s → Pend all s ts → Reads Conjunction ts (k ∷ r) t
    → At all (auto.at_have (depth s) k) (feed (have t s) k) r
from_have Open j p x = losts
from_have Close j p x = all_close_ok p j x
from_have (Name b) j p x = losts
from_have (With w) j p x = losts
from_have (Not w) j p x = losts
from_have (And w) j p x = wants (at_and j p x)
from_have (Or w) j p x = or_ok p j x
from_have (Then w) j p x = then_ok p j x

step_ok : {all r : List Token} {q : Option State} {p : Spot} (k : Token) → At all q p (k ∷ r) → At all (auto.advance q k) (feed p k) r
step_ok k (wants p) = from_want k p
step_ok k (names p) = from_named k p
step_ok k (seconds p) = from_second k p
step_ok k (haves j p x) = from_have k j p x
step_ok k losts = losts

run_ok : {all : List Token} (r : List Token) {q : Option State} {p : Spot} → At all q p r → At all (auto.run q r) (feed_all p r) []
run_ok [] h = h
run_ok (k ∷ r) h = run_ok r (step_ok k h)

-- where the automaton accepts there is a tree, and it is derived; elsewhere there is none
abbrev Outcome : List Token → Bool → Option Phrase → Type 0
Outcome all true (Some t) = Reads Rule all [] t
Outcome all true None = ⊥
Outcome all false (Some t) = ⊥
Outcome all false None = Unit {0}

end_choice : {all : List Token} {s : Stack} {ts : List Token} {t : Phrase} → Pend all s ts → Chooses s → Reads Rule ts [] t
    → Outcome all (auto.closed_all (depth s)) (whole (disjunction_done t s))
end_choice at_base h x = x
end_choice (at_open p) h x = tt
end_choice (at_not p) h x = absurd h
end_choice (at_and j p y) h x = absurd h
end_choice (at_or c p y) h x = absurd h
end_choice (at_then c p y) h x = end_choice p c (then_read y x)

end_joint : {all : List Token} {s : Stack} {ts : List Token} {t : Phrase} → Pend all s ts → Joins s → Reads Conjunction ts [] t
    → Outcome all (auto.closed_all (depth s)) (whole (all_done (conjunction_done t s)))
end_joint at_base h x = disjunction_read (conjunction_read x)
end_joint (at_open p) h x = tt
end_joint (at_not p) h x = absurd h
end_joint (at_and j p y) h x = absurd h
end_joint (at_or c p y) h x = end_choice p c (disjunction_read (or_read y x))
end_joint (at_then c p y) h x = end_choice (at_then c p y) tt (disjunction_read (conjunction_read x))

end_ok : {all : List Token} {q : Option State} {p : Spot} → At all q p [] → Outcome all (auto.complete q) (finish p)
end_ok (wants p) = tt
end_ok (names p) = tt
end_ok (seconds p) = tt
end_ok (haves j p x) = end_joint p j x
end_ok losts = tt

outcome : (ts : List Token) → Outcome ts (auto.accepted ts) (parse ts)
outcome ts = end_ok (run_ok ts (wants at_base))

by_tree : (all : List Token) (b : Bool) (o : Option Phrase) (t : Phrase) → Outcome all b o → o ≡ Some t → Reads Rule all [] t
by_tree all true (Some u) t h e = subst (λ v. Reads Rule all [] v) (let f : u ≡ t = cc in f) h
by_tree all true None t h e = absurd h
by_tree all false (Some u) t h e = absurd h
by_tree all false None t h e = absurd (let z : ⊥ = cc in z)

by_test : (all : List Token) (b : Bool) (o : Option Phrase) → Outcome all b o → b ≡ true → (t : Phrase) × Reads Rule all [] t
by_test all true (Some u) h e = (u, h)
by_test all true None h e = absurd h
by_test all false (Some u) h e = absurd h
by_test all false None h e = absurd (false≢true e)

pub sound : (ts : List Token) (t : Phrase) → parse ts ≡ Some t → Is Rule ts t
sound ts t e = taken_all (by_tree ts (auto.accepted ts) (parse ts) t (outcome ts) e)

pub derived : (ts : List Token) → auto.accepted ts ≡ true → (t : Phrase) × Is Rule ts t
derived ts e = let h = by_test ts (auto.accepted ts) (parse ts) (outcome ts) e in (h.0, taken_all h.1)

pub parsed_exactly : ParsedExactly
parsed_exactly ts t = (sound ts t, parsed)

pub accepted_exactly : AcceptedExactly
accepted_exactly ts = (derived ts, λ x. accepts x.1)
