-- A table of literals that grows at its end, by the normal form of a tree.
use Rattle.std.proofs.Common.{◌≡◌, ℕ, suc, ◌+◌, ◌<◌, ◌≤◌, Bool, true, false, List, [], ◌∷◌, ◌++◌, length, get_or, sym, refl, ap, ◌∙◌, arith, length-append}
use Rattle.std.proofs.lemmas.List.{get_or_default, append_assoc}
use Rattle.formula.specs.declared.node.Node.{Node}
use Rattle.formula.specs.declared.node.Node.TheVariants.{Leaf}
use Rattle.formula.specs.declared.node.Pair.{Pair}
use Rattle.formula.specs.Evaluation.{all_below, parts_first}
use Rattle.formula.specs.LiteralTable.{joined_node}
use Rattle.formula.specs.Normal.{joined}
use Rattle.formula.specs.Parts.{parts}
use Rattle.formula.specs.Table.{top, post, shape, trees, blank, node_tree}
use Rattle.formula.specs.Tree.{Tree, size}
use Rattle.formula.proofs.Growth.{top_size, post_length}
use Rattle.formula.proofs.PartsFirst.{first_at}
use Rattle.formula.proofs.TableTrees.{tree_step}

-- what a table shows where it has no node
abbrev pub no_node : Node (Pair ℕ)
no_node = Leaf (record { place = 0; first = 0; second = 0 })

-- node i of a table, its tree and its parts
module _ (ns : List (Node (Pair ℕ))) (first : parts_first 0 ns ≡ true) (i : ℕ) (w : i < length ns) (n : Node (Pair ℕ)) (e : get_or ns i no_node ≡ n) where
  at_default : n ≡ get_or ns i n
  at_default = sym e ∙ get_or_default ns i no_node n w

  pub tree_here : node_tree ns i ≡ shape blank (trees blank ns) n
  tree_here = tree_step blank ns i n first w at_default

  pub parts_here : all_below i (parts n) ≡ true
  parts_here = ap (λ j. all_below j (parts n)) (let z : i ≡ 0 + i = omega arith in z) ∙ first_at 0 ns i n first w at_default

size_joined : {A : Type 0} (s : Bool) (p : ℕ) (t u : Tree A) → size (joined s p t u) ≡ suc (size t + size u)
size_joined true p t u = refl
size_joined false p t u = refl

top_joined : {A : Type 0} (s : Bool) (k p : ℕ) (t u : Tree A) → top k (joined s p t u) ≡ suc (top (suc (top k t)) u)
top_joined true k p t u = refl
top_joined false k p t u = refl

post_joined : {A : Type 0} (s : Bool) (k p : ℕ) (t u : Tree A)
    → post k (joined s p t u) ≡ post k t ++ (post (suc (top k t)) u ++ joined_node s p (top k t) (top (suc (top k t)) u) ∷ [])
post_joined true k p t u = refl
post_joined false k p t u = refl

-- the table after the nodes of a tree ends behind its top node
after_post : {A : Type 0} (old new : List (Node A)) (t : Tree A) → new ≡ old ++ post (length old) t
    → (length new ≡ length old + size t) × (length new ≡ suc (top (length old) t))
after_post old new t e =
    let a : length new ≡ length (old ++ post (length old) t) = ap length e in
    let b = length-append old (post (length old) t) in
    let c = post_length (length old) t in
    let d = top_size (length old) t in
    (omega arith, omega arith)

-- a tree appended under another name
module _ {A : Type 0} (old : List (Node A)) (t u : Tree A) (e : t ≡ u) where
  pub top_as : (r : ℕ) → r ≡ top (length old) u → r ≡ top (length old) t
  top_as r h = h ∙ sym (ap (top (length old)) e)

  pub more_as : (new : List (Node A)) → new ≡ old ++ post (length old) u → new ≡ old ++ post (length old) t
  more_as new h = h ∙ sym (ap (λ w. old ++ post (length old) w) e)

-- a tree `whole` that joins two others, appended part by part
module _ {A : Type 0} (whole t u : Tree A) (s : Bool) (p : ℕ) (is : whole ≡ joined s p t u) (old : List (Node A)) (room : length old + size whole ≤ 32) where
  sizes : size whole ≡ suc (size t + size u)
  sizes = ap size is ∙ size_joined s p t u

  pub room_left : length old + size t ≤ 32
  room_left = let h = sizes in omega arith

  module _ (one : List (Node A)) (left : one ≡ old ++ post (length old) t) where
    pub room_right : length one + size u ≤ 32
    room_right = let h = sizes in let a = after_post old one t left in omega arith

    module _ (two : List (Node A)) (right : two ≡ one ++ post (length one) u) where
      pub room_top : length two < 32
      room_top = let h = sizes in let a = after_post old one t left in let b = after_post one two u right in omega arith

      module _ (x y r : ℕ) (n : Node A) (new : List (Node A)) (xs : x ≡ top (length old) t) (ys : y ≡ top (length one) u)
          (ns : n ≡ joined_node s p x y) where
        next : length one ≡ suc (top (length old) t)
        next = (after_post old one t left).1

        pub top_both : r ≡ length two → r ≡ top (length old) whole
        top_both rs =
            rs ∙ (after_post one two u right).1 ∙ ap (λ k. suc (top k u)) next
            ∙ sym (ap (top (length old)) is ∙ top_joined s (length old) p t u)

        node_both : n ≡ joined_node s p (top (length old) t) (top (suc (top (length old) t)) u)
        node_both = ns ∙ ap (λ i. joined_node s p i y) xs ∙ ap (joined_node s p (top (length old) t)) (ys ∙ ap (λ k. top k u) next)

        pub more_both : new ≡ two ++ n ∷ [] → new ≡ old ++ post (length old) whole
        more_both e =
            e ∙ ap (λ zs. zs ++ n ∷ []) (right ∙ ap (λ k. one ++ post k u) next)
            ∙ append_assoc one (post (suc (top (length old) t)) u) (n ∷ [])
            ∙ ap (λ zs. zs ++ (post (suc (top (length old) t)) u ++ n ∷ [])) left
            ∙ append_assoc old (post (length old) t) (post (suc (top (length old) t)) u ++ n ∷ [])
            ∙ ap (λ m. old ++ (post (length old) t ++ (post (suc (top (length old) t)) u ++ m ∷ []))) node_both
            ∙ ap (λ zs. old ++ zs) (sym (ap (post (length old)) is ∙ post_joined s (length old) p t u))
