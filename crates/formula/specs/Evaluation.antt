-- The truths of all nodes of a table, and when they can be worked out (executable). Rests on Table, Parts and Truth.
use Rattle.std.specs.Prelude.{ℕ, suc, Bool, true, cond, ◌&&◌, List, [], ◌∷◌, ◌++◌, map, length, drop, Ok, Err, Result, nat_le, nat_lt, slice_index_or}
use Rattle.std.specs.List.{list_all}
use Rattle.formula.specs.declared.evaluation.NotReady.{NotReady}
use Rattle.formula.specs.declared.evaluation.NotReady.TheVariants.{TooFewLeaves, TooLittleRoom, PartNotBefore}
use Rattle.formula.specs.declared.node.Node.{Node}
use Rattle.formula.specs.declared.node.Node.TheVariants.{Leaf, Not, And, Or, Then}
use Rattle.formula.specs.Ops.{Ops}
use Rattle.formula.specs.Parts.{parts}
use Rattle.formula.specs.Table.{map_node, trees}
use Rattle.formula.specs.Tree.{Tree, leaf}
use Rattle.formula.specs.Truth.{truth}

-- a node whose leaf is its own index, k
abbrev pub numbered : {A : Type 0} → ℕ → Node A → Node ℕ
numbered k n = map_node (λ _. k) n

-- a table, from index k on, whose leaves are their own indices
abbrev pub numbered_from : {A : Type 0} → ℕ → List (Node A) → List (Node ℕ)
numbered_from k [] = []
numbered_from k (n ∷ ns) = numbered k n ∷ numbered_from (suc k) ns

-- the tree of each node, over the indices of its leaves
abbrev pub index_trees : {A : Type 0} → List (Node A) → List (Tree ℕ)
index_trees ns = trees (leaf 0) (numbered_from 0 ns)

-- the truth of each node's tree, where the leaf at node i has the truth at i of a list; d stands where the list has none
abbrev pub node_truths : {S A : Type 0} → Ops S → S → List (Node A) → List S → List S
node_truths o d ns ls = map (truth o (λ i. slice_index_or ls i d)) (index_trees ns)

-- each of these indices is below k
abbrev pub all_below : ℕ → List ℕ → Bool
all_below k is = list_all (λ i. nat_lt i k) is

-- from index k on, parts stand before the whole
abbrev pub parts_first : {A : Type 0} → ℕ → List (Node A) → Bool
parts_first k [] = true
parts_first k (n ∷ ns) = all_below k (parts n) && parts_first (suc k) ns

-- A table can be worked out with so many leaf truths and so much room: there is one of each for every node, and parts stand before the whole.
abbrev pub ready : {A : Type 0} → List (Node A) → ℕ → ℕ → Bool
ready ns leaves room = (nat_le (length ns) leaves && nat_le (length ns) room) && parts_first 0 ns

-- why it cannot, if it cannot
abbrev pub readiness : {A : Type 0} → List (Node A) → ℕ → ℕ → Result (Unit {0}) NotReady
readiness ns leaves room =
    cond (nat_lt leaves (length ns)) (Err TooFewLeaves) (cond (nat_lt room (length ns)) (Err TooLittleRoom) (cond (parts_first 0 ns) (Ok tt) (Err PartNotBefore)))

-- What the room holds afterwards: the nodes' truths, then what stood there; all as it was if the table is not ready.
abbrev pub evaluated : {S A : Type 0} → Ops S → S → List (Node A) → List S → List S → List S
evaluated o d ns ls old = cond (ready ns (length ls) (length old)) (node_truths o d ns ls ++ drop (length ns) old) old

-- the truth of a node, from that of its leaf and those of its parts
abbrev pub weighed : {S A : Type 0} → Ops S → S → (ℕ → S) → Node A → S
weighed o x part (Leaf a) = x
weighed o x part (Not p i) = o.opposite (part i)
weighed o x part (And p i j) = o.both (part i) (part j)
weighed o x part (Or p i j) = o.either (part i) (part j)
weighed o x part (Then p i j) = o.either (o.opposite (part i)) (part j)
