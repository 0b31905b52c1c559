-- A formula as a tree over atoms of any kind. Rests on nothing.
use Rattle.std.specs.Prelude.{ℕ, suc, ◌+◌, Bool, ◌&&◌, List, [], ◌∷◌, ◌++◌, nat_le, nat_lt}
use Rattle.formula.specs.declared.node.Pair.{Pair}

-- Each word of a formula is a node, with the place where it stands; an atom keeps its own.
pub data Tree (A : Type 0) : Type 0 where
  leaf : A → Tree A
  not : ℕ → Tree A → Tree A
  and or then : ℕ → Tree A → Tree A → Tree A

-- the same tree over other atoms
abbrev pub map_tree : {A B : Type 0} → (A → B) → Tree A → Tree B
map_tree f (leaf a) = leaf (f a)
map_tree f (not p t) = not p (map_tree f t)
map_tree f (and p t u) = and p (map_tree f t) (map_tree f u)
map_tree f (or p t u) = or p (map_tree f t) (map_tree f u)
map_tree f (then p t u) = then p (map_tree f t) (map_tree f u)

-- whether every atom passes a test
abbrev pub every : {A : Type 0} → (A → Bool) → Tree A → Bool
every q (leaf a) = q a
every q (not p t) = every q t
every q (and p t u) = every q t && every q u
every q (or p t u) = every q t && every q u
every q (then p t u) = every q t && every q u

-- the atoms, from left to right
abbrev pub atoms : {A : Type 0} → Tree A → List A
atoms (leaf a) = a ∷ []
atoms (not p t) = atoms t
atoms (and p t u) = atoms t ++ atoms u
atoms (or p t u) = atoms t ++ atoms u
atoms (then p t u) = atoms t ++ atoms u

-- how many nodes there are
abbrev pub size : {A : Type 0} → Tree A → ℕ
size (leaf a) = 1
size (not p t) = suc (size t)
size (and p t u) = suc (size t + size u)
size (or p t u) = suc (size t + size u)
size (then p t u) = suc (size t + size u)

-- The words stand from `from` on and before `to`: those of the left part before the word, those of the right part after it.
abbrev pub spans : {A : Type 0} → (A → ℕ) → ℕ → ℕ → Tree A → Bool
spans place from to (leaf a) = nat_le from (place a) && nat_lt (place a) to
spans place from to (not p t) = (nat_le from p && nat_lt p to) && spans place (suc p) to t
spans place from to (and p t u) = (nat_le from p && nat_lt p to) && (spans place from p t && spans place (suc p) to u)
spans place from to (or p t u) = (nat_le from p && nat_lt p to) && (spans place from p t && spans place (suc p) to u)
spans place from to (then p t u) = (nat_le from p && nat_lt p to) && (spans place from p t && spans place (suc p) to u)

-- a pair over other atoms
abbrev pub map_pair : {A B : Type 0} → (A → B) → Pair A → Pair B
map_pair f p = record { place = p.place; first = f p.first; second = f p.second }

-- both names of a pair, in the order in which they stand
abbrev pub both_of : {A : Type 0} → Pair A → List A
both_of p = p.first ∷ p.second ∷ []
