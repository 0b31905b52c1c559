-- The truths of the nodes of a table: each from those of its parts.
use Rattle.std.proofs.Common.{◌≡◌, ℕ, zero, suc, ◌+◌, ◌<◌, ◌≤◌, true, ◌&&◌, List, [], ◌∷◌, ◌++◌, length, get_or, take, drop, set, sym, refl, ap, ◌∙◌, ap₂, arith}
use Rattle.std.proofs.lemmas.List.{get_or-map, length-map, get_or_append_left, get_or-take, length-take-le, set_at, drop_more, take_all, take_more, append_assoc, get_or_read, get_or_default}
use Rattle.formula.specs.declared.node.Node.{Node}
use Rattle.formula.specs.declared.node.Node.TheVariants.{Leaf, Not, And, Or, Then}
use Rattle.formula.specs.Evaluation.{numbered, numbered_from, index_trees, node_truths, all_below, parts_first, weighed}
use Rattle.formula.specs.Ops.{Ops}
use Rattle.formula.specs.Parts.{parts}
use Rattle.formula.specs.Table.{shape}
use Rattle.formula.specs.Tree.{Tree, leaf}
use Rattle.formula.specs.Truth.{truth}
use Rattle.formula.proofs.PartsFirst.{below_one, below_two, first_at}
use Rattle.formula.proofs.TableTrees.{tree_step, grown_length}

module _ {A : Type 0} where
  numbered_parts : (k : ℕ) (n : Node A) → parts (numbered k n) ≡ parts n
  numbered_parts k (Leaf a) = refl
  numbered_parts k (Not p i) = refl
  numbered_parts k (And p i j) = refl
  numbered_parts k (Or p i j) = refl
  numbered_parts k (Then p i j) = refl

  numbered_first : (k j : ℕ) (ns : List (Node A)) → parts_first k (numbered_from j ns) ≡ parts_first k ns
  numbered_first k j [] = refl
  numbered_first k j (n ∷ ns) = ap₂ (λ is b. all_below k is && b) (numbered_parts j n) (numbered_first (suc k) (suc j) ns)

  numbered_length : (k : ℕ) (ns : List (Node A)) → length (numbered_from k ns) ≡ length ns
  numbered_length k [] = refl
  numbered_length k (n ∷ ns) = ap suc (numbered_length (suc k) ns)

  numbered_at : (k i : ℕ) (ns : List (Node A)) (n : Node A) → i < length ns → n ≡ get_or ns i n
      → numbered (k + i) n ≡ get_or (numbered_from k ns) i (numbered (k + i) n)
  numbered_at k i [] n l is = absurd (omega arith)
  numbered_at k zero (m ∷ ns) n l is = ap₂ numbered (let z : k + 0 ≡ k = omega arith in z) is
  numbered_at k (suc i) (m ∷ ns) n l is =
      let e : k + suc i ≡ suc k + i = omega arith in
      ap (λ j. numbered j n) e ∙ numbered_at (suc k) i ns n (omega arith) is ∙ ap (λ j. get_or (numbered_from (suc k) ns) i (numbered j n)) (sym e)

module _ {S A : Type 0} (o : Ops S) where
  -- same parts, same truth
  pub weighed_same : (x : S) (f g : ℕ → S) (k : ℕ) (n : Node A) → all_below k (parts n) ≡ true → ((i : ℕ) → i < k → f i ≡ g i) → weighed o x f n ≡ weighed o x g n
  weighed_same x f g k (Leaf a) h e = refl
  weighed_same x f g k (Not p i) h e = ap o.opposite (e i (below_one k i h))
  weighed_same x f g k (And p i j) h e = let b = below_two k i j h in ap₂ o.both (e i b.0) (e j b.1)
  weighed_same x f g k (Or p i j) h e = let b = below_two k i j h in ap₂ o.either (e i b.0) (e j b.1)
  weighed_same x f g k (Then p i j) h e = let b = below_two k i j h in ap₂ (λ y z. o.either (o.opposite y) z) (e i b.0) (e j b.1)

  truth_numbered : (v : ℕ → S) (ts : List (Tree ℕ)) (k : ℕ) (n : Node A)
      → truth o v (shape (leaf 0) ts (numbered k n)) ≡ weighed o (v k) (λ i. truth o v (get_or ts i (leaf 0))) n
  truth_numbered v ts k (Leaf a) = refl
  truth_numbered v ts k (Not p i) = refl
  truth_numbered v ts k (And p i j) = refl
  truth_numbered v ts k (Or p i j) = refl
  truth_numbered v ts k (Then p i j) = refl

  module _ (d : S) (ns : List (Node A)) (ls : List S) where
    trees_length : length (index_trees ns) ≡ length ns
    trees_length =
        let h = grown_length (leaf 0) [] (numbered_from 0 ns) in
        let g = numbered_length 0 ns in
        omega arith

    pub truths_length : length (node_truths o d ns ls) ≡ length ns
    truths_length = length-map (index_trees ns) (truth o (λ i. get_or ls i d)) ∙ trees_length

    truth_at : (i : ℕ) → i < length ns → get_or (node_truths o d ns ls) i d ≡ truth o (λ j. get_or ls j d) (get_or (index_trees ns) i (leaf 0))
    truth_at i l = get_or-map (truth o (λ j. get_or ls j d)) (index_trees ns) i (leaf 0) d (let h = trees_length in omega arith)

    -- the truth of a node, from that of its leaf and those of its parts
    pub truth_step : (i : ℕ) (n : Node A) → parts_first 0 ns ≡ true → i < length ns → n ≡ get_or ns i n
        → get_or (node_truths o d ns ls) i d ≡ weighed o (get_or ls i d) (λ j. get_or (node_truths o d ns ls) j d) n
    truth_step i n f l is =
        let v = λ (j : ℕ). get_or ls j d in
        let m : numbered i n ≡ get_or (numbered_from 0 ns) i (numbered i n) =
        (let e : i ≡ 0 + i = omega arith in
        ap (λ j. numbered j n) e ∙ numbered_at 0 i ns n l is ∙ ap (λ j. get_or (numbered_from 0 ns) i (numbered j n)) (sym e)) in
        let b : all_below i (parts n) ≡ true = ap (λ j. all_below j (parts n)) (let z : i ≡ 0 + i = omega arith in z) ∙ first_at 0 ns i n f l is in
        truth_at i l
        ∙ ap (truth o v) (tree_step (leaf 0) (numbered_from 0 ns) i (numbered i n) (numbered_first 0 0 ns ∙ f) (let h = numbered_length 0 ns in omega arith) m)
        ∙ truth_numbered v (index_trees ns) i n
        ∙ weighed_same (v i) (λ j. truth o v (get_or (index_trees ns) j (leaf 0))) (λ j. get_or (node_truths o d ns ls) j d) i n b (λ j h. sym (truth_at j (omega arith)))

-- a list written from its first place on, one place more
module _ {S : Type 0} (new old : List S) (i : ℕ) where
  pub written_before : (k : ℕ) (d : S) → i ≤ length new → k < i → get_or (take i new ++ drop i old) k d ≡ get_or new k d
  written_before k d h l =
      get_or_append_left (take i new) (drop i old) d k (let e = length-take-le i new h in omega arith) ∙ get_or-take i new k d l

  pub written_more : (x : S) → i < length new → i < length old → x ≡ get_or new i x → set (take i new ++ drop i old) i x ≡ take (i + 1) new ++ drop (i + 1) old
  written_more x h l is =
      ap (λ ys. set (take i new ++ ys) i x) (drop_more old i x l)
      ∙ set_at (take i new) (get_or old i x) (drop (i + 1) old) x i (length-take-le i new (omega arith))
      ∙ ap (λ y. take i new ++ (y ∷ drop (i + 1) old)) is
      ∙ sym (append_assoc (take i new) (get_or new i x ∷ []) (drop (i + 1) old))
      ∙ ap (λ ys. ys ++ drop (i + 1) old) (sym (take_more new i x h))

-- one turn of the evaluation
pub fill_more : {S A : Type 0} (o : Ops S) (d : S) (ns : List (Node A)) (ls old ts : List S) (i : ℕ) (n : Node A) (y x : S)
    → parts_first 0 ns ≡ true → i < length ns → length ns ≤ length ls → length ns ≤ length old
    → n ≡ get_or ns i n → y ≡ get_or ls i y → x ≡ weighed o y (λ k. get_or ts k d) n
    → ts ≡ take i (node_truths o d ns ls) ++ drop i old
    → set ts i x ≡ take (i + 1) (node_truths o d ns ls) ++ drop (i + 1) old
fill_more o d ns ls old ts i n y x f l k r is ys e inv =
    let new = node_truths o d ns ls in
    let size = truths_length o d ns ls in
    let b : all_below i (parts n) ≡ true = ap (λ j. all_below j (parts n)) (let z : i ≡ 0 + i = omega arith in z) ∙ first_at 0 ns i n f l is in
    let here : x ≡ get_or new i d =
    e
    ∙ ap (λ u. weighed o y (λ j. get_or u j d) n) inv
    ∙ weighed_same o y (λ j. get_or (take i new ++ drop i old) j d) (λ j. get_or new j d) i n b (λ j h. written_before new old i j d (omega arith) h)
    ∙ ap (λ z. weighed o z (λ j. get_or new j d) n) (get_or_read ls i y (omega arith) ys d)
    ∙ sym (truth_step o d ns ls i n f l is) in
    ap (λ u. set u i x) inv ∙ written_more new old i x (omega arith) (omega arith) (here ∙ get_or_default new i d x (omega arith))

-- after the last turn
pub fill_all : {S A : Type 0} (o : Ops S) (d : S) (ns : List (Node A)) (ls old ts : List S) (i : ℕ) → i ≡ length ns
    → ts ≡ take i (node_truths o d ns ls) ++ drop i old → ts ≡ node_truths o d ns ls ++ drop (length ns) old
fill_all o d ns ls old ts i e inv =
    let size = truths_length o d ns ls in
    inv ∙ ap₂ (λ xs j. xs ++ drop j old) (take_all i (node_truths o d ns ls) (omega arith)) e
