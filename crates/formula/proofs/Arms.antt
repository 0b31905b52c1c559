-- The normal form of a node of a table, from those of its parts.
use Rattle.std.proofs.Common.{◌≡◌, ℕ, ◌<◌, Bool, true, not as flip, List, length, get_or, ap}
use Rattle.formula.specs.declared.node.Node.{Node}
use Rattle.formula.specs.declared.node.Node.TheVariants.{Leaf, Not, And, Or, Then}
use Rattle.formula.specs.declared.node.Pair.{Pair}
use Rattle.formula.specs.Evaluation.{parts_first}
use Rattle.formula.specs.Normal.{nnf, joined}
use Rattle.formula.specs.Table.{node_tree}
use Rattle.formula.specs.Tree.{leaf}
use Rattle.formula.proofs.Appending.{no_node, tree_here, parts_here}
use Rattle.formula.proofs.PartsFirst.{below_one, below_two}

-- a word p over two parts l and r, which stand before it: an `and` or an `or` by the sign s, its left part with the sign a
pub record Arm (ns : List (Node (Pair ℕ))) (i : ℕ) (sign : Bool) (p l r : ℕ) (s a : Bool) : Type 0 where
  pub is : nnf sign (node_tree ns i) ≡ joined s p (nnf a (node_tree ns l)) (nnf sign (node_tree ns r))
  pub left : l < i
  pub right : r < i

module _ (ns : List (Node (Pair ℕ))) (first : parts_first 0 ns ≡ true) (i : ℕ) (w : i < length ns) (sign : Bool) where
  pub leaf_is : (a : Pair ℕ) → get_or ns i no_node ≡ Leaf a → nnf sign (node_tree ns i) ≡ leaf (record { positive = sign; pair = a })
  leaf_is a e = ap (nnf sign) (tree_here ns first i w (Leaf a) e)

  pub not_is : (p l : ℕ) → get_or ns i no_node ≡ Not p l → (nnf sign (node_tree ns i) ≡ nnf (flip sign) (node_tree ns l)) × (l < i)
  not_is p l e = (ap (nnf sign) (tree_here ns first i w (Not p l) e), below_one i l (parts_here ns first i w (Not p l) e))

  module _ (p l r : ℕ) where
    pub arm_and : get_or ns i no_node ≡ And p l r → Arm ns i sign p l r sign sign
    arm_and e =
        let b = below_two i l r (parts_here ns first i w (And p l r) e) in
        record { is = ap (nnf sign) (tree_here ns first i w (And p l r) e); left = b.0; right = b.1 }

    pub arm_or : get_or ns i no_node ≡ Or p l r → Arm ns i sign p l r (flip sign) sign
    arm_or e =
        let b = below_two i l r (parts_here ns first i w (Or p l r) e) in
        record { is = ap (nnf sign) (tree_here ns first i w (Or p l r) e); left = b.0; right = b.1 }

    pub arm_then : get_or ns i no_node ≡ Then p l r → Arm ns i sign p l r (flip sign) (flip sign)
    arm_then e =
        let b = below_two i l r (parts_here ns first i w (Then p l r) e) in
        record { is = ap (nnf sign) (tree_here ns first i w (Then p l r) e); left = b.0; right = b.1 }
