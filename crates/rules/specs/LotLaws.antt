-- What holds of the numbers in a rule's formula (statements). Rests on Tree of crate formula.
use Rattle.std.specs.Prelude.{ℕ, ◌≤◌}
use Rattle.std.specs.List.{AllByRecursion}
use Rattle.formula.specs.declared.node.Pair.{Pair}
use Rattle.formula.specs.Tree.{Tree, atoms}

-- both lots of a pair are among n lots, which are numbered from 1
pub record LotsOf (n : ℕ) (p : Pair ℕ) : Type 0 where
  pub first : (1 ≤ p.first) × (p.first ≤ n)
  pub second : (1 ≤ p.second) × (p.second ≤ n)

-- every pair of a formula is a pair of lots
abbrev pub OverLots : ℕ → Tree (Pair ℕ) → Type 0
OverLots n t = AllByRecursion (LotsOf n) (atoms t)
