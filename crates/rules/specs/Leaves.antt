-- Tests of a table's leaves. Rests on Tree of crate formula.
use Rattle.std.specs.Prelude.{ℕ, Bool, true, ◌&&◌, List, nat_le}
use Rattle.std.specs.List.{list_all}
use Rattle.formula.specs.declared.node.Node.{Node}
use Rattle.formula.specs.declared.node.Node.TheVariants.{Leaf, Not, And, Or, Then}
use Rattle.formula.specs.declared.node.Pair.{Pair}
use Rattle.formula.specs.Tree.{Tree, every}

-- a node's leaf, if it is one, passes a test
abbrev pub leaf_passes : {A : Type 0} → (A → Bool) → Node A → Bool
leaf_passes q (Leaf a) = q a
leaf_passes q (Not p i) = true
leaf_passes q (And p i j) = true
leaf_passes q (Or p i j) = true
leaf_passes q (Then p i j) = true

-- all leaves of a table do
abbrev pub leaves_pass : {A : Type 0} → (A → Bool) → List (Node A) → Bool
leaves_pass q ns = list_all (leaf_passes q) ns

-- both numbers of a pair are numbers of n lots: from 1 to n
abbrev pub pair_among : ℕ → Pair ℕ → Bool
pair_among n p = (nat_le 1 p.first && nat_le p.first n) && (nat_le 1 p.second && nat_le p.second n)

-- all numbers of a formula are numbers of n lots
abbrev pub among : ℕ → Tree (Pair ℕ) → Bool
among n t = every (pair_among n) t
