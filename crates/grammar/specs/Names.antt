-- Names as they are stored, and numbered by where they first stand. Rests on Tree of crate formula.
use Rattle.std.specs.Prelude.{◌≡◌, ℕ, zero, suc, ◌<◌, ◌≤◌, Bool, cond, List, [], ◌∷◌, ◌++◌, length, nat_lt, slice_index_or}
use Rattle.std.specs.List.{AllByRecursion, position_or_len}
use Rattle.std.specs.Str.{bytes_eq}
use Rattle.formula.specs.declared.node.Pair.{Pair}
use Rattle.formula.specs.Tree.{Tree, leaf, not, and, or, then, map_tree, map_pair}
use Rattle.grammar.specs.declared.name.Name.{Name}
use Rattle.grammar.specs.declared.name.Named.{Named}

-- the first n bytes, and zeros behind them where there are fewer
abbrev pub pad : ℕ → List ℕ → List ℕ
pad zero xs = []
pad (suc n) [] = 0 ∷ pad n []
pad (suc n) (x ∷ xs) = x ∷ pad n xs

-- a name of decoded bytes, as it is stored: with zeros up to twelve
abbrev pub stored : List ℕ → Name
stored n = record { bytes = pad 12 n }

-- whether two texts have the same bytes
abbrev pub same : List ℕ → List ℕ → Bool
same = bytes_eq

-- whether this is the name of one that stands in a line
abbrev pub is_named : Name → Named → Bool
is_named n x = same x.name.bytes n.bytes

-- the number of a name in a list, from 0: the first place where it stands, or the list's length
abbrev pub find : Name → List Named → ℕ
find n xs = position_or_len (is_named n) xs

-- a name is added at the end where it does not stand yet
abbrev pub enlist : List Named → Named → List Named
enlist ns x = cond (nat_lt (find x.name ns) (length ns)) ns (ns ++ x ∷ [])

-- names one after another
abbrev pub listed : List Named → List Named → List Named
listed ns [] = ns
listed ns (x ∷ xs) = listed (enlist ns x) xs

-- no name, which stands past the end of a list
abbrev pub nobody : Named
nobody = record { place = 0; name = record { bytes = [] } }

-- each name stands once in the list: its number is its place there
abbrev pub EachOnce : List Named → Type 0
EachOnce ns = (i : ℕ) → i < length ns → find (slice_index_or ns i nobody).name ns ≡ i

-- the bytes of a name as they are decoded: at most twelve, and none of them 0
pub record Decoded (n : List ℕ) : Type 0 where
  pub few : length n ≤ 12
  pub no_zero : AllByRecursion (λ b. 0 < b) n

-- a rule over its names, as it is read
abbrev pub Phrase : Type 0
Phrase = Tree (Pair Named)

-- all names of a rule, in the order in which they stand in the line
abbrev pub names_of : Phrase → List Named
names_of (leaf p) = p.first ∷ p.second ∷ []
names_of (not p t) = names_of t
names_of (and p t u) = names_of t ++ names_of u
names_of (or p t u) = names_of t ++ names_of u
names_of (then p t u) = names_of t ++ names_of u

-- a pair, by the numbers of its names
abbrev pub pair_in : List Named → Pair Named → Pair ℕ
pair_in ns p = map_pair (λ (x : Named). find x.name ns) p

-- a rule over the numbers of its names
abbrev pub numbered : List Named → Phrase → Tree (Pair ℕ)
numbered ns t = map_tree (pair_in ns) t
