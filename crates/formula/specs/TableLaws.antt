-- What holds of the table of a formula (statements). Rests on Parts and Words.
use Rattle.std.specs.Prelude.{◌≡◌, ℕ, suc, ◌<◌, ◌≤◌, List, length}
use Rattle.formula.specs.declared.node.Node.{Node}
use Rattle.formula.specs.Parts.{parts_at, AllBelow, mentions}
use Rattle.formula.specs.Tree.{Tree, atoms}
use Rattle.formula.specs.Words.{words}

-- Parts stand before the whole; every node but the last is part of exactly one node, and once; the last is part of none.
pub record OneTree {A : Type 0} (ns : List (Node A)) : Type 0 where
  pub before : (i : ℕ) → i < length ns → AllBelow i (parts_at ns i)
  pub once : (i : ℕ) → suc i < length ns → mentions ns i ≡ 1
  pub last : (i : ℕ) → suc i ≡ length ns → mentions ns i ≡ 0

-- There is one leaf more than words that join two parts, and there are at most 15 such words.
pub record FewWords {A : Type 0} (t : Tree A) : Type 0 where
  pub leaves : length (atoms t) ≡ suc (words t)
  pub most : words t ≤ 15
