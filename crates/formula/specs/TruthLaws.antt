-- What holds of truths (statements). Rests on Truth, Table, Scales, Decided and Normal.
use Rattle.std.specs.Prelude.{◌≡◌, ℕ, ◌<◌, Bool, true, List, length, slice_index_or}
use Rattle.formula.specs.declared.node.Node.{Node}
use Rattle.formula.specs.declared.node.Node.TheVariants.{Leaf}
use Rattle.formula.specs.declared.literal.Literal.{Literal}
use Rattle.formula.specs.declared.node.Pair.{Pair}
use Rattle.formula.specs.declared.scale.Three.{Three}
use Rattle.formula.specs.Decided.{known, Less, Chosen}
use Rattle.formula.specs.Normal.{literal_truth}
use Rattle.formula.specs.Ops.{Ops}
use Rattle.formula.specs.Scales.{two, three}
use Rattle.formula.specs.Table.{trees}
use Rattle.formula.specs.Tree.{Tree, not, or, then}
use Rattle.formula.specs.Truth.{truth}

-- A list has the truth of each leaf of a table at the leaf's index.
abbrev pub LeafTruths : {S A : Type 0} → (A → S) → S → List (Node A) → List S → Type 0
LeafTruths {A = A} v d ns ls = (i : ℕ) (a : A) → i < length ns → slice_index_or ns i (Leaf a) ≡ Leaf a → slice_index_or ls i d ≡ v a

-- Whatever truths the atoms have, if the leaves' truths are theirs, then each node's truth in the list is that of its tree over the atoms.
abbrev pub TruthsOfTrees : {S A : Type 0} → Ops S → S → List (Node A) → List S → List S → Type 0
TruthsOfTrees {S = S} {A = A} o d ns ls new =
    (v : A → S) → LeafTruths v d ns ls → (e : Tree A) (i : ℕ) → i < length ns → slice_index_or new i d ≡ truth o v (slice_index_or (trees e ns) i e)

-- For all truths of the pairs, a tree over pairs and one over literals have the same truth in a scale.
abbrev pub SameTruth : {S : Type 0} → Ops S → Tree (Pair ℕ) → Tree Literal → Type 0
SameTruth {S = S} o t n = (v : Pair ℕ → S) → truth o (literal_truth o v) n ≡ truth o v t

-- `p then q` is (not p) or q, wherever that `not` may stand.
abbrev pub ThenIsOr : {S : Type 0} → Ops S → Type 0
ThenIsOr {S = S} o = (v : Pair ℕ → S) (p q : ℕ) (t u : Tree (Pair ℕ)) → truth o v (then p t u) ≡ truth o v (or p (not q t) u)

-- Deciding more leaves never changes a node that was decided; a node that is yes (no) is true (false) in every two-valued choice for its open leaves;
-- and with every leaf decided both scales say the same.
pub record Informed (A : Type 0) : Type 0 where
  pub kept : (t : Tree A) (v w : A → Three) → ((a : A) → Less (v a) (w a)) → Less (truth three v t) (truth three w t)
  pub right : (t : Tree A) (v : A → Three) (w : A → Bool) → ((a : A) → Chosen (v a) (w a)) → Chosen (truth three v t) (truth two w t)
  pub agree : (t : Tree A) (v : A → Bool) → truth three (λ a. known (v a)) t ≡ known (truth two v t)

-- Making atoms true never makes the tree false.
abbrev pub Monotone : {A : Type 0} → Tree A → Type 0
Monotone {A = A} t = (v w : A → Bool) → ((a : A) → v a ≡ true → w a ≡ true) → truth two v t ≡ true → truth two w t ≡ true
