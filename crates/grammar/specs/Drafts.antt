-- What a draft holds. Rests on Held of crate formula.
use Rattle.std.specs.Prelude.{ℕ, List}
use Rattle.formula.specs.Held.{held}
use Rattle.formula.specs.declared.node.Node.{Node}
use Rattle.formula.specs.declared.node.Pair.{Pair}
use Rattle.grammar.specs.declared.draft.Draft.{Draft}
use Rattle.grammar.specs.declared.name.Named.{Named}

-- its nodes, and its names
abbrev pub nodes_in : Draft → List (Node (Pair ℕ))
nodes_in d = held d.nodes

abbrev pub names_in : Draft → List Named
names_in d = held d.names
