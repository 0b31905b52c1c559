-- What is printed of bytes, names, pairs and nodes. Rests on Tree of crate formula.
use Rattle.std.specs.Prelude.{ℕ, cond, ◌&&◌, List, [], ◌++◌, codes, map, Some, None, Option, nat_le, ◌==◌, slice_index_or, length, ◌-◌}
use Rattle.std.specs.Char.{encode_utf8}
use Rattle.std.specs.List.{flat_map}
use Rattle.formula.specs.declared.literal.Literal.{Literal}
use Rattle.formula.specs.declared.node.Node.{Node}
use Rattle.formula.specs.declared.node.Node.TheVariants.{Leaf, Not, And, Or, Then}
use Rattle.formula.specs.declared.node.Pair.{Pair}
use Rattle.formula.specs.Tree.{Tree, leaf, not, and, or, then}
use Rattle.grammar.specs.declared.name.Named.{Named}
use Rattle.reading.specs.declared.fault.RuleFault.{RuleFault}
use Rattle.reading.specs.declared.fault.RuleFault.TheVariants.{Text, OutOfGrammar, TooManyNodes}
use Rattle.reading.specs.declared.fault.TextFault.TheVariants.{LineTooLong, WrongByte, NameTooLong}

-- the place of a fault in its line, where it has one
abbrev pub place_of : RuleFault → Option ℕ
place_of (Text LineTooLong) = None
place_of (Text (WrongByte p)) = Some p
place_of (Text (NameTooLong p)) = Some p
place_of (OutOfGrammar p) = Some p
place_of (TooManyNodes n) = None

-- a byte as it is shown: itself, or a dot where it cannot be shown
abbrev pub shown_byte : ℕ → ℕ
shown_byte b = cond (nat_le 32 b && nat_le b 126) b 46

-- bytes as they are shown, one for one
abbrev pub shown_bytes : List ℕ → List ℕ
shown_bytes bs = map shown_byte bs

-- a byte of a name as it is shown: the character with its code; zeros, which stand behind a name, are left out
abbrev pub shown_letter : ℕ → List ℕ
shown_letter b = cond (b == 0) [] (encode_utf8 b)

abbrev pub shown_name : Named → List ℕ
shown_name n = flat_map shown_letter n.name.bytes

-- a text that was written before, or nothing
abbrev pub text_at : List (List ℕ) → ℕ → List ℕ
text_at texts i = slice_index_or texts i []

-- the last text, or nothing where there is none
abbrev pub last_text : List (List ℕ) → List ℕ
last_text texts = text_at texts (length texts - 1)

-- two texts with a word between them, in parentheses
abbrev pub between : List ℕ → List ℕ → List ℕ → List ℕ
between word left right = codes "(" ++ (left ++ (codes " " ++ (word ++ (codes " " ++ (right ++ codes ")")))))

-- a pair and a literal, by the texts of their names
abbrev pub shown_pair : List (List ℕ) → Pair ℕ → List ℕ
shown_pair names p = between (codes "with") (text_at names p.first) (text_at names p.second)

abbrev pub shown_literal : List (List ℕ) → Literal → List ℕ
shown_literal names l = cond l.positive [] (codes "not ") ++ shown_pair names l.pair

-- a node over texts of its parts that were written before
abbrev pub shown_node : {L : Type 0} → (L → List ℕ) → List (List ℕ) → Node L → List ℕ
shown_node atom texts (Leaf a) = atom a
shown_node atom texts (Not p i) = codes "not " ++ text_at texts i
shown_node atom texts (And p i j) = between (codes "and") (text_at texts i) (text_at texts j)
shown_node atom texts (Or p i j) = between (codes "or") (text_at texts i) (text_at texts j)
shown_node atom texts (Then p i j) = between (codes "then") (text_at texts i) (text_at texts j)

-- a tree with all its parentheses
abbrev pub shown_tree : {A : Type 0} → (A → List ℕ) → Tree A → List ℕ
shown_tree atom (leaf a) = atom a
shown_tree atom (not p t) = codes "not " ++ shown_tree atom t
shown_tree atom (and p t u) = between (codes "and") (shown_tree atom t) (shown_tree atom u)
shown_tree atom (or p t u) = between (codes "or") (shown_tree atom t) (shown_tree atom u)
shown_tree atom (then p t u) = between (codes "then") (shown_tree atom t) (shown_tree atom u)
