-- What a formula holds. Rests on Table.
use Rattle.std.specs.Prelude.{ℕ, List}
use Rattle.formula.specs.declared.formula.Formula.{Formula}
use Rattle.formula.specs.declared.node.Node.{Node}
use Rattle.formula.specs.declared.node.Pair.{Pair}
use Rattle.formula.specs.Held.{held}
use Rattle.formula.specs.Table.{tree_of}
use Rattle.formula.specs.Tree.{Tree}

-- its nodes
abbrev pub nodes_of : Formula → List (Node (Pair ℕ))
nodes_of f = held f.nodes

-- the tree that it stands for
abbrev pub formula_tree : Formula → Tree (Pair ℕ)
formula_tree f = tree_of (nodes_of f)
