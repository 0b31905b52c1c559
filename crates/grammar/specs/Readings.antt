-- What a line says. Rests on Names and Formulas of crate formula.
use Rattle.std.specs.Prelude.{ℕ, List, []}
use Rattle.formula.specs.Formulas.{formula_tree}
use Rattle.formula.specs.Held.{held}
use Rattle.formula.specs.declared.node.Pair.{Pair}
use Rattle.formula.specs.Tree.{Tree}
use Rattle.grammar.specs.declared.line.Line.{Line}
use Rattle.grammar.specs.declared.name.Named.{Named}
use Rattle.grammar.specs.Names.{Phrase, listed, names_of, numbered}

-- a formula over the numbers of names, and the names, each with the place where it first stands
pub record Reading : Type 0 where
  pub tree : Tree (Pair ℕ)
  pub names : List Named

-- what a program holds
abbrev pub said : Line → Reading
said l = record { tree = formula_tree l.formula; names = held l.names }

-- the names in the order in which they first stand, and the rule over their numbers
abbrev pub reading_of : Phrase → Reading
reading_of t = record { tree = numbered (listed [] (names_of t)) t; names = listed [] (names_of t) }
