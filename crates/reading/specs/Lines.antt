-- What is known of every line that is taken. Rests on Spells and on Names and Words of crate grammar.
use Rattle.std.specs.Prelude.{◌≡◌, ℕ, ◌≤◌, List, [], length}
use Rattle.std.specs.List.{AllByRecursion}
use Rattle.formula.specs.Formulas.{nodes_of}
use Rattle.grammar.specs.declared.level.Level.TheVariants.{Rule}
use Rattle.grammar.specs.declared.line.Line.{Line}
use Rattle.grammar.specs.declared.name.Named.{Named}
use Rattle.grammar.specs.declared.token.Token.{Token}
use Rattle.grammar.specs.Grammar.{Is}
use Rattle.grammar.specs.Names.{Phrase, stored, listed, EachOnce, Decoded}
use Rattle.grammar.specs.Readings.{said}
use Rattle.grammar.specs.Words.{words, token_names}
use Rattle.reading.specs.Spells.{Spells}

-- a name is the stored form of decoded bytes
abbrev pub IsStored : Named → Type 0
IsStored x = (n : List ℕ) × Decoded n × (x.name ≡ stored n)

-- A line that is taken has 1 to 32 nodes, one for each of its words, and its names in the order in which they first stand, each once.
pub record WellRead (bs : List ℕ) (l : Line) : Type 0 where
  pub nodes : (ts : List Token) (t : Phrase) → Spells bs ts → Is Rule ts t → length (nodes_of l.formula) ≡ words ts
  pub bounds : (1 ≤ length (nodes_of l.formula)) × (length (nodes_of l.formula) ≤ 32)
  pub names : (ts : List Token) (t : Phrase) → Spells bs ts → Is Rule ts t → (said l).names ≡ listed [] (token_names ts)
  pub once : EachOnce (said l).names
  pub decoded : AllByRecursion IsStored (said l).names
