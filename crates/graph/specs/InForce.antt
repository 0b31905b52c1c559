-- The formulas in force speak of the lots alone (executable). Rests on Lots and on the trees of formulas.
use Rattle.std.specs.Prelude.{ℕ, Bool, ◌&&◌, List}
use Rattle.std.specs.List.{list_all}
use Rattle.formula.specs.Tree.{Tree, every}
use Rattle.formula.specs.declared.node.Pair.{Pair}
use Rattle.graph.specs.Lots.{is_lot}

-- both numbers of a pair are lots
abbrev pub pair_of_lots : ℕ → Pair ℕ → Bool
pair_of_lots n p = is_lot n p.first && is_lot n p.second

-- so it is with every pair of every formula in force
abbrev pub of_lots : ℕ → List (Tree (Pair ℕ)) → Bool
of_lots n fs = list_all (λ f. every (pair_of_lots n) f) fs
