-- The table of a tree over other atoms.
use Rattle.std.proofs.Common.{◌≡◌, ℕ, suc, ◌≤◌, true, ◌&&◌, ltb, leb, List, [], ◌∷◌, ◌++◌, map, length, take, sym, refl, ap, ◌∙◌, ap₂}
use Rattle.std.proofs.lemmas.List.{map-append, take_all}
use Rattle.formula.specs.declared.node.Node.{Node}
use Rattle.formula.specs.declared.node.Node.TheVariants.{Not, And, Or, Then}
use Rattle.formula.specs.declared.node.Pair.{Pair}
use Rattle.formula.specs.Table.{top, post, tree_of, pair_place, map_node}
use Rattle.formula.specs.Tree.{Tree, leaf, not, and, or, then, map_tree, map_pair, spans}
use Rattle.formula.proofs.Growth.{tree_of_post}

module _ {A B : Type 0} (f : A → B) where
  top_map : (k : ℕ) (t : Tree A) → top k (map_tree f t) ≡ top k t
  top_map k (leaf a) = refl
  top_map k (not p t) = ap suc (top_map k t)
  top_map k (and p t u) = ap suc (ap (λ i. top (suc i) (map_tree f u)) (top_map k t) ∙ top_map (suc (top k t)) u)
  top_map k (or p t u) = ap suc (ap (λ i. top (suc i) (map_tree f u)) (top_map k t) ∙ top_map (suc (top k t)) u)
  top_map k (then p t u) = ap suc (ap (λ i. top (suc i) (map_tree f u)) (top_map k t) ∙ top_map (suc (top k t)) u)

  -- two parts and the word over them
  both_map : (w : ℕ → ℕ → Node A) (v : ℕ → ℕ → Node B) → ((i j : ℕ) → map_node f (w i j) ≡ v i j) → (k : ℕ) (t u : Tree A)
      → map (map_node f) (post k t) ≡ post k (map_tree f t) → map (map_node f) (post (suc (top k t)) u) ≡ post (suc (top k t)) (map_tree f u)
      → map (map_node f) (post k t ++ (post (suc (top k t)) u ++ w (top k t) (top (suc (top k t)) u) ∷ []))
      ≡ post k (map_tree f t) ++ (post (suc (top k (map_tree f t))) (map_tree f u) ++ v (top k (map_tree f t)) (top (suc (top k (map_tree f t))) (map_tree f u)) ∷ [])
  both_map w v e k t u left right =
      let i = top k t in
      let j = top (suc (top k t)) u in
      map-append (map_node f) (post k t) (post (suc i) u ++ w i j ∷ [])
      ∙ ap₂ (λ (xs ys : List (Node B)). xs ++ ys) left
      (map-append (map_node f) (post (suc i) u) (w i j ∷ []) ∙ ap₂ (λ (xs : List (Node B)) (n : Node B). xs ++ n ∷ []) right (e i j))
      ∙ ap (λ (m : ℕ). post k (map_tree f t) ++ (post (suc i) (map_tree f u) ++ v i m ∷ [])) (sym (top_map (suc i) u))
      ∙ ap (λ (m : ℕ). post k (map_tree f t) ++ (post (suc m) (map_tree f u) ++ v m (top (suc m) (map_tree f u)) ∷ [])) (sym (top_map k t))

  pub map_post : (k : ℕ) (t : Tree A) → map (map_node f) (post k t) ≡ post k (map_tree f t)
  map_post k (leaf a) = refl
  map_post k (not p t) =
      map-append (map_node f) (post k t) (Not p (top k t) ∷ [])
      ∙ ap₂ (λ (xs : List (Node B)) (i : ℕ). xs ++ Not p i ∷ []) (map_post k t) (sym (top_map k t))
  map_post k (and p t u) = both_map (And p) (And p) (λ i j. refl) k t u (map_post k t) (map_post (suc (top k t)) u)
  map_post k (or p t u) = both_map (Or p) (Or p) (λ i j. refl) k t u (map_post k t) (map_post (suc (top k t)) u)
  map_post k (then p t u) = both_map (Then p) (Then p) (λ i j. refl) k t u (map_post k t) (map_post (suc (top k t)) u)

  -- atoms that keep their places stand as they stood
  module _ (place : A → ℕ) (spot : B → ℕ) (stays : (a : A) → spot (f a) ≡ place a) where
    pub spans_map : (from to : ℕ) (t : Tree A) → spans spot from to (map_tree f t) ≡ spans place from to t
    spans_map from to (leaf a) = ap (λ i. leb from i && ltb i to) (stays a)
    spans_map from to (not p t) = ap (λ b. (leb from p && ltb p to) && b) (spans_map (suc p) to t)
    spans_map from to (and p t u) = ap₂ (λ a b. (leb from p && ltb p to) && (a && b)) (spans_map from p t) (spans_map (suc p) to u)
    spans_map from to (or p t u) = ap₂ (λ a b. (leb from p && ltb p to) && (a && b)) (spans_map from p t) (spans_map (suc p) to u)
    spans_map from to (then p t u) = ap₂ (λ a b. (leb from p && ltb p to) && (a && b)) (spans_map from p t) (spans_map (suc p) to u)

-- all nodes have been gone through
pub all_through : {A B : Type 0} (g : A → B) (ns all : List A) (hs : List B) (i : ℕ) → hs ≡ map g (take i all) → all ≡ ns → length all ≤ i → hs ≡ map g ns
all_through g ns all hs i e s h = e ∙ ap (map g) (take_all i all h ∙ s)

-- The table ns of a formula with other numbers in its pairs, hs, is the table of the formula over these numbers, with its words where they stood.
module _ (g : ℕ → ℕ) (ns hs : List (Node (Pair ℕ))) (whole : post 0 (tree_of ns) ≡ ns) (made : hs ≡ map (map_node (map_pair g)) ns) where
  made_post : hs ≡ post 0 (map_tree (map_pair g) (tree_of ns))
  made_post = made ∙ ap (map (map_node (map_pair g))) (sym whole) ∙ map_post (map_pair g) 0 (tree_of ns)

  pub made_tree : tree_of hs ≡ map_tree (map_pair g) (tree_of ns)
  made_tree = ap tree_of made_post ∙ tree_of_post (map_tree (map_pair g) (tree_of ns))

  pub made_whole : post 0 (tree_of hs) ≡ hs
  made_whole = ap (post 0) made_tree ∙ sym made_post

  pub made_in_order : spans pair_place 0 512 (tree_of ns) ≡ true → spans pair_place 0 512 (tree_of hs) ≡ true
  made_in_order e = ap (spans pair_place 0 512) made_tree ∙ spans_map (map_pair g) pair_place pair_place (λ a. refl) 0 512 (tree_of ns) ∙ e
