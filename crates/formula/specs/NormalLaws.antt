-- What holds of normal forms (statements). Rests on Normal, TableLaws and TruthLaws.
use Rattle.std.specs.Prelude.{◌≡◌, ℕ, true, map}
use Rattle.formula.specs.declared.literal.Literal.{Literal}
use Rattle.formula.specs.declared.node.Pair.{Pair}
use Rattle.formula.specs.Normal.{is_normal, literal_place, pair_of}
use Rattle.formula.specs.Scales.{two, three}
use Rattle.formula.specs.TableLaws.{FewWords}
use Rattle.formula.specs.Tree.{Tree, atoms, spans}
use Rattle.formula.specs.TruthLaws.{SameTruth, Monotone}
use Rattle.formula.specs.Words.{words}

-- It has only leaves, `and` and `or`; its words stand in a line of 512 bytes, each between those of its parts; it has few words; making a literal true
-- never makes it false.
pub record InNormalForm (n : Tree Literal) : Type 0 where
  pub only : is_normal n ≡ true
  pub places : spans literal_place 0 512 n ≡ true
  pub few : FewWords n
  pub monotone : Monotone n

-- What the normal form n keeps of a formula t: the pairs in their order, the number of words that join two parts, and the truth in both scales.
pub record Kept (t : Tree (Pair ℕ)) (n : Tree Literal) : Type 0 where
  pub pairs : map pair_of (atoms n) ≡ atoms t
  pub joins : words n ≡ words t
  pub in_two : SameTruth two t n
  pub in_three : SameTruth three t n
