-- Which nodes of a table are parts of which. Rests on Node alone.
use Rattle.std.specs.Prelude.{ℕ, ◌+◌, ◌<◌, List, [], ◌∷◌, map, ◌==◌, slice_index_or}
use Rattle.std.specs.List.{AllByRecursion, count_by}
use Rattle.formula.specs.declared.node.Node.{Node}
use Rattle.formula.specs.declared.node.Node.TheVariants.{Leaf, Not, And, Or, Then}

-- the indices of a node's parts: none for a leaf, one for `not`, two for the other words
abbrev pub parts : {A : Type 0} → Node A → List ℕ
parts (Leaf a) = []
parts (Not p i) = i ∷ []
parts (And p i j) = i ∷ j ∷ []
parts (Or p i j) = i ∷ j ∷ []
parts (Then p i j) = i ∷ j ∷ []

-- the indices of the parts of node i; none where the table has no such node
abbrev pub parts_at : {A : Type 0} → List (Node A) → ℕ → List ℕ
parts_at ns i = slice_index_or (map parts ns) i []

-- each of these indices is below k
abbrev pub AllBelow : ℕ → List ℕ → Type 0
AllBelow k is = AllByRecursion (λ i. i < k) is

-- how many times i stands among these indices
abbrev pub times : ℕ → List ℕ → ℕ
times i js = count_by (λ j. i == j) js

-- how many times a table names i as a part; a node that names it for both its parts counts twice
abbrev pub mentions : {A : Type 0} → List (Node A) → ℕ → ℕ
mentions [] i = 0
mentions (n ∷ ns) i = times i (parts n) + mentions ns i
