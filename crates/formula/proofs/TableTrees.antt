-- The trees of a table in which parts stand before the whole, node by node.
use Rattle.std.proofs.Common.{◌≡◌, ℕ, zero, suc, ◌+◌, ◌<◌, true, List, [], ◌∷◌, ◌++◌, length, get_or, sym, refl, ap, ◌∙◌, ap₂, arith, length-append}
use Rattle.std.proofs.lemmas.List.{get_or_append_left, get_or_push}
use Rattle.std.proofs.lemmas.Bool.{and_parts}
use Rattle.formula.specs.declared.node.Node.{Node}
use Rattle.formula.specs.declared.node.Node.TheVariants.{Leaf, Not, And, Or, Then}
use Rattle.formula.specs.Evaluation.{all_below, parts_first}
use Rattle.formula.specs.Parts.{parts}
use Rattle.formula.specs.Table.{shape, grown, trees}
use Rattle.formula.specs.Tree.{Tree, not, and, or, then}
use Rattle.formula.proofs.PartsFirst.{below_one, below_two}

module _ {A : Type 0} (d : Tree A) where
  -- same parts, same tree
  pub shape_same : (ts us : List (Tree A)) (k : ℕ) (n : Node A) → all_below k (parts n) ≡ true
      → ((i : ℕ) → i < k → get_or ts i d ≡ get_or us i d) → shape d ts n ≡ shape d us n
  shape_same ts us k (Leaf a) h e = refl
  shape_same ts us k (Not p i) h e = ap (not p) (e i (below_one k i h))
  shape_same ts us k (And p i j) h e = let b = below_two k i j h in ap₂ (and p) (e i b.0) (e j b.1)
  shape_same ts us k (Or p i j) h e = let b = below_two k i j h in ap₂ (or p) (e i b.0) (e j b.1)
  shape_same ts us k (Then p i j) h e = let b = below_two k i j h in ap₂ (then p) (e i b.0) (e j b.1)

  pub grown_length : (ts : List (Tree A)) (ns : List (Node A)) → length (grown d ts ns) ≡ length ts + length ns
  grown_length ts [] = omega arith
  grown_length ts (n ∷ ns) =
      let h = grown_length (ts ++ shape d ts n ∷ []) ns in
      let g = length-append ts (shape d ts n ∷ []) in
      omega arith

  -- what stands stays
  pub grown_keeps : (ts : List (Tree A)) (ns : List (Node A)) (i : ℕ) → i < length ts → get_or (grown d ts ns) i d ≡ get_or ts i d
  grown_keeps ts [] i l = refl
  grown_keeps ts (n ∷ ns) i l =
      let g = length-append ts (shape d ts n ∷ []) in
      grown_keeps (ts ++ shape d ts n ∷ []) ns i (omega arith) ∙ get_or_append_left ts (shape d ts n ∷ []) d i l

  grown_at : (ts : List (Tree A)) (ns : List (Node A)) (k i : ℕ) (n : Node A) → length ts ≡ k → parts_first k ns ≡ true
      → i < length ns → n ≡ get_or ns i n → get_or (grown d ts ns) (k + i) d ≡ shape d (grown d ts ns) n
  grown_at ts [] k i n e f l is = absurd (omega arith)
  grown_at ts (m ∷ ns) k zero n e f l is =
      let b = and_parts (all_below k (parts m)) (parts_first (suc k) ns) f in
      let us = grown d (ts ++ shape d ts m ∷ []) ns in
      let g = length-append ts (shape d ts m ∷ []) in
      ap (λ j. get_or us j d) (let z : k + 0 ≡ length ts = omega arith in z)
      ∙ grown_keeps (ts ++ shape d ts m ∷ []) ns (length ts) (omega arith)
      ∙ get_or_push ts (shape d ts m) d (length ts) refl
      ∙ shape_same ts us k m b.0 (λ j h. sym (grown_keeps (ts ++ shape d ts m ∷ []) ns j (omega arith) ∙ get_or_append_left ts (shape d ts m ∷ []) d j (omega arith)))
      ∙ ap (shape d us) (sym is)
  grown_at ts (m ∷ ns) k (suc i) n e f l is =
      let b = and_parts (all_below k (parts m)) (parts_first (suc k) ns) f in
      let us = grown d (ts ++ shape d ts m ∷ []) ns in
      let g = length-append ts (shape d ts m ∷ []) in
      ap (λ j. get_or us j d) (let z : k + suc i ≡ suc k + i = omega arith in z)
      ∙ grown_at (ts ++ shape d ts m ∷ []) ns (suc k) i n (omega arith) b.1 (omega arith) is

  -- the tree of a node is made of those of its parts
  pub tree_step : (ns : List (Node A)) (i : ℕ) (n : Node A) → parts_first 0 ns ≡ true → i < length ns → n ≡ get_or ns i n
      → get_or (trees d ns) i d ≡ shape d (trees d ns) n
  tree_step ns i n f l is = ap (λ j. get_or (trees d ns) j d) (let z : i ≡ 0 + i = omega arith in z) ∙ grown_at [] ns 0 i n refl f l is
