-- Which numbers a formula's pairs have. Rests on Tree.
use Rattle.std.specs.Prelude.{ℕ, Bool, ◌&&◌, nat_lt}
use Rattle.formula.specs.declared.node.Pair.{Pair}
use Rattle.formula.specs.Tree.{Tree, every}

-- both numbers of a pair are below n
abbrev pub pair_below : ℕ → Pair ℕ → Bool
pair_below n p = nat_lt p.first n && nat_lt p.second n

-- all numbers are below n
abbrev pub within : ℕ → Tree (Pair ℕ) → Bool
within n t = every (pair_below n) t
