-- The table of a tree, its parts before the whole, and the trees of a table. Rests on Tree.
use Rattle.std.specs.Prelude.{ℕ, suc, ◌-◌, List, [], ◌∷◌, ◌++◌, length, slice_index_or}
use Rattle.formula.specs.declared.node.Node.{Node}
use Rattle.formula.specs.declared.node.Node.TheVariants as node
use Rattle.formula.specs.declared.node.Pair.{Pair}
use Rattle.formula.specs.Tree.{Tree, leaf, not, and, or, then}

-- the node with its leaf changed; a word stays
abbrev pub map_node : {A B : Type 0} → (A → B) → Node A → Node B
map_node f (node.Leaf a) = node.Leaf (f a)
map_node f (node.Not p i) = node.Not p i
map_node f (node.And p i j) = node.And p i j
map_node f (node.Or p i j) = node.Or p i j
map_node f (node.Then p i j) = node.Then p i j

-- the index of a tree's top node in a table where the tree begins at k
abbrev pub top : {A : Type 0} → ℕ → Tree A → ℕ
top k (leaf a) = k
top k (not p t) = suc (top k t)
top k (and p t u) = suc (top (suc (top k t)) u)
top k (or p t u) = suc (top (suc (top k t)) u)
top k (then p t u) = suc (top (suc (top k t)) u)

-- the nodes of a tree that begins at k: those of its parts, then its own
abbrev pub post : {A : Type 0} → ℕ → Tree A → List (Node A)
post k (leaf a) = node.Leaf a ∷ []
post k (not p t) = post k t ++ node.Not p (top k t) ∷ []
post k (and p t u) = post k t ++ (post (suc (top k t)) u ++ node.And p (top k t) (top (suc (top k t)) u) ∷ [])
post k (or p t u) = post k t ++ (post (suc (top k t)) u ++ node.Or p (top k t) (top (suc (top k t)) u) ∷ [])
post k (then p t u) = post k t ++ (post (suc (top k t)) u ++ node.Then p (top k t) (top (suc (top k t)) u) ∷ [])

-- the tree of a node over the trees of the nodes before it
abbrev pub shape : {A : Type 0} → Tree A → List (Tree A) → Node A → Tree A
shape d ts (node.Leaf a) = leaf a
shape d ts (node.Not p i) = not p (slice_index_or ts i d)
shape d ts (node.And p i j) = and p (slice_index_or ts i d) (slice_index_or ts j d)
shape d ts (node.Or p i j) = or p (slice_index_or ts i d) (slice_index_or ts j d)
shape d ts (node.Then p i j) = then p (slice_index_or ts i d) (slice_index_or ts j d)

-- the trees of the nodes, one after another; d stands where a part is missing
abbrev pub grown : {A : Type 0} → Tree A → List (Tree A) → List (Node A) → List (Tree A)
grown d ts [] = ts
grown d ts (n ∷ ns) = grown d (ts ++ shape d ts n ∷ []) ns

abbrev pub trees : {A : Type 0} → Tree A → List (Node A) → List (Tree A)
trees d ns = grown d [] ns

-- the pair of the name or lot 0 with itself, which no formula needs
abbrev pub blank : Tree (Pair ℕ)
blank = leaf (record { place = 0; first = 0; second = 0 })

-- the tree of node i
abbrev pub node_tree : List (Node (Pair ℕ)) → ℕ → Tree (Pair ℕ)
node_tree ns i = slice_index_or (trees blank ns) i blank

-- the tree of a whole table: that of its last node
abbrev pub tree_of : List (Node (Pair ℕ)) → Tree (Pair ℕ)
tree_of ns = slice_index_or (trees blank ns) (length ns - 1) blank

-- where the word of a pair stands
abbrev pub pair_place : Pair ℕ → ℕ
pair_place p = p.place
