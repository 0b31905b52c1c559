-- Idle literals are safe to take as yes (statements). Rests on Safety and Rounds.
use Rattle.std.specs.Prelude.{◌≡◌, ℕ, true, List}
use Rattle.formula.specs.Tree.{Tree}
use Rattle.formula.specs.declared.node.Pair.{Pair}
use Rattle.graph.specs.InForce.{of_lots}
use Rattle.graph.specs.Rounds.{rounds, marked}
use Rattle.graph.specs.Safety.{Safe}

-- The marks after every round are safe, and so those at the end.
pub record MarksAreSafe : Type 0 where
  pub after : (n : ℕ) (fs : List (Tree (Pair ℕ))) → of_lots n fs ≡ true → (k : ℕ) → Safe fs (rounds k n fs)
  pub end : (n : ℕ) (fs : List (Tree (Pair ℕ))) → of_lots n fs ≡ true → Safe fs (marked n fs)
