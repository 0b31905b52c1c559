-- What a normal form holds. Rests on LiteralTable.
use Rattle.std.specs.Prelude.{List}
use Rattle.formula.specs.declared.literal.Literal.{Literal}
use Rattle.formula.specs.declared.node.Node.{Node}
use Rattle.formula.specs.declared.normal.NormalForm.{NormalForm}
use Rattle.formula.specs.Held.{held}
use Rattle.formula.specs.LiteralTable.{literal_tree_of}
use Rattle.formula.specs.Tree.{Tree}

-- its nodes
abbrev pub normal_nodes : NormalForm → List (Node Literal)
normal_nodes f = held f.nodes

-- the tree that it stands for
abbrev pub normal_tree : NormalForm → Tree Literal
normal_tree f = literal_tree_of (normal_nodes f)
