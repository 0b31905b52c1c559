-- Tables over literals: their trees, and the nodes of normal forms (executable). Rests on Table.
use Rattle.std.specs.Prelude.{ℕ, ◌-◌, Bool, true, false, List, length, slice_index_or}
use Rattle.std.specs.List.{list_all}
use Rattle.formula.specs.declared.literal.Literal.{Literal}
use Rattle.formula.specs.declared.node.Node.{Node}
use Rattle.formula.specs.declared.node.Node.TheVariants.{Leaf, Not, And, Or, Then}
use Rattle.formula.specs.Table.{trees}
use Rattle.formula.specs.Tree.{Tree, leaf}

-- a literal that no normal form needs
abbrev pub blank_literal : Tree Literal
blank_literal = leaf (record { positive = false; pair = record { place = 0; first = 0; second = 0 } })

-- the tree of a whole table: that of its last node
abbrev pub literal_tree_of : List (Node Literal) → Tree Literal
literal_tree_of ns = slice_index_or (trees blank_literal ns) (length ns - 1) blank_literal

-- a leaf, an `and` or an `or`
abbrev pub is_plain : {A : Type 0} → Node A → Bool
is_plain (Leaf a) = true
is_plain (Not p i) = false
is_plain (And p i j) = true
is_plain (Or p i j) = true
is_plain (Then p i j) = false

-- a table of nothing else
abbrev pub all_plain : {A : Type 0} → List (Node A) → Bool
all_plain ns = list_all is_plain ns

-- the node of an `and` or an `or`, by the sign
abbrev pub joined_node : {A : Type 0} → Bool → ℕ → ℕ → ℕ → Node A
joined_node true p i j = And p i j
joined_node false p i j = Or p i j
