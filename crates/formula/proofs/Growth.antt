-- A table read back: the trees of the table of a tree.
use Rattle.std.proofs.Common.{◌≡◌, ℕ, suc, ◌+◌, ◌-◌, ◌<◌, List, [], ◌∷◌, ◌++◌, length, get_or, sym, refl, ap, ◌∙◌, append_assoc, append-nil, arith, length-append}
use Rattle.std.proofs.lemmas.List.{get_or_append_left, get_or_at}
use Rattle.formula.specs.declared.node.Node.{Node}
use Rattle.formula.specs.declared.node.Node.TheVariants.{Not}
use Rattle.formula.specs.declared.node.Pair.{Pair}
use Rattle.formula.specs.Tree.{Tree, leaf, not, and, or, then, size}
use Rattle.formula.specs.Table.{top, post, shape, grown, trees, blank, tree_of}

-- the nodes of a tree: as many as its size, the top one last
pub top_size : {A : Type 0} (k : ℕ) (t : Tree A) → suc (top k t) ≡ k + size t
top_size k (leaf a) = omega arith
top_size k (not p t) = let h = top_size k t in omega arith
top_size k (and p t u) = let h = top_size k t in let g = top_size (suc (top k t)) u in omega arith
top_size k (or p t u) = let h = top_size k t in let g = top_size (suc (top k t)) u in omega arith
top_size k (then p t u) = let h = top_size k t in let g = top_size (suc (top k t)) u in omega arith

joined_length : {X : Type 0} (xs ys : List X) (z : X) (m n : ℕ) → length xs ≡ m → length ys ≡ n → length (xs ++ (ys ++ z ∷ [])) ≡ suc (m + n)
joined_length xs ys z m n e f = let g = length-append xs (ys ++ z ∷ []) in let h = length-append ys (z ∷ []) in omega arith

pub post_length : {A : Type 0} (k : ℕ) (t : Tree A) → length (post k t) ≡ size t
post_length k (leaf a) = refl
post_length k (not p t) = let h = post_length k t in let g = length-append (post k t) (Not p (top k t) ∷ []) in omega arith
post_length k (and p t u) = joined_length (post k t) (post (suc (top k t)) u) _ _ _ (post_length k t) (post_length (suc (top k t)) u)
post_length k (or p t u) = joined_length (post k t) (post (suc (top k t)) u) _ _ _ (post_length k t) (post_length (suc (top k t)) u)
post_length k (then p t u) = joined_length (post k t) (post (suc (top k t)) u) _ _ _ (post_length k t) (post_length (suc (top k t)) u)

module _ {A : Type 0} (d : Tree A) where
  -- `Grows ts t us`: the nodes of t, behind the trees ts, give the trees us
  pub record Grows (ts : List (Tree A)) (t : Tree A) (us : List (Tree A)) : Type 0 where
    pub all : (ns : List (Node A)) → grown d ts (post (length ts) t ++ ns) ≡ grown d us ns
    pub last : length us ≡ suc (top (length ts) t)
    pub there : get_or us (top (length ts) t) d ≡ t
    pub kept : (i : ℕ) → i < length ts → get_or us i d ≡ get_or ts i d
    pub more : length ts < length us

  -- a node over two trees that stand there
  binary : (ts : List (Tree A)) (a b t : Tree A) (us vs : List (Tree A)) (n : Node A) → Grows ts a us → Grows us b vs
      → post (length ts) t ≡ post (length ts) a ++ (post (suc (top (length ts) a)) b ++ n ∷ [])
      → top (length ts) t ≡ suc (top (suc (top (length ts) a)) b)
      → shape d vs n ≡ t
      → Grows ts t (vs ++ t ∷ [])
  binary ts a b t us vs n g h p q e =
      let next : length us ≡ suc (top (length ts) a) = g.last in
      let place : length vs ≡ top (length ts) t = h.last ∙ ap (λ k. suc (top k b)) next ∙ sym q in
      let longer : length (vs ++ t ∷ []) ≡ length vs + 1 = length-append vs (t ∷ []) in
      record {
        all = λ ns.
            ap (λ s. grown d ts (s ++ ns)) p
            ∙ ap (grown d ts) (append_assoc (post (length ts) a) (post (suc (top (length ts) a)) b ++ n ∷ []) ns)
            ∙ g.all ((post (suc (top (length ts) a)) b ++ n ∷ []) ++ ns)
            ∙ ap (grown d us) (append_assoc (post (suc (top (length ts) a)) b) (n ∷ []) ns)
            ∙ ap (λ k. grown d us (post k b ++ (n ∷ ns))) (sym next)
            ∙ h.all (n ∷ ns)
            ∙ ap (λ x. grown d (vs ++ x ∷ []) ns) e;
        last = (let z : length (vs ++ t ∷ []) ≡ suc (top (length ts) t) = omega (arith, longer, place) in z);
        there = get_or_at vs t [] d (top (length ts) t) place;
        kept = λ i l. get_or_append_left vs (t ∷ []) d i (omega (arith, g.more, h.more)) ∙ h.kept i (omega (arith, g.more)) ∙ g.kept i l;
        more = omega (arith, longer, g.more, h.more);
      }

  -- both parts, as they stand
  parts : (ts : List (Tree A)) (a b : Tree A) (us vs : List (Tree A)) → Grows ts a us → Grows us b vs
      → (get_or vs (top (length ts) a) d ≡ a) × (get_or vs (top (suc (top (length ts) a)) b) d ≡ b)
  parts ts a b us vs g h = (
    h.kept (top (length ts) a) (omega (arith, g.last)) ∙ g.there,
    ap (λ k. get_or vs (top k b) d) (sym g.last) ∙ h.there,
  )

  pub grows : (ts : List (Tree A)) (t : Tree A) → (us : List (Tree A)) × Grows ts t us
  grows ts (leaf a) =
      let longer : length (ts ++ leaf a ∷ []) ≡ length ts + 1 = length-append ts (leaf a ∷ []) in (
        ts ++ leaf a ∷ [],
        record {
          all = λ ns. refl;
          last = (let z : length (ts ++ leaf a ∷ []) ≡ suc (length ts) = omega (arith, longer) in z);
          there = get_or_at ts (leaf a) [] d (length ts) refl;
          kept = λ i l. get_or_append_left ts (leaf a ∷ []) d i l;
          more = omega (arith, longer);
        },
      )
  grows ts (not p t) =
      let x = grows ts t in
      let g = x.1 in
      let vs : List (Tree A) = x.0 in
      let longer : length (vs ++ not p t ∷ []) ≡ length vs + 1 = length-append vs (not p t ∷ []) in (
        vs ++ not p t ∷ [],
        record {
          all = λ ns.
              ap (grown d ts) (append_assoc (post (length ts) t) (Not p (top (length ts) t) ∷ []) ns)
              ∙ g.all (Not p (top (length ts) t) ∷ ns)
              ∙ ap (λ y. grown d (vs ++ not p y ∷ []) ns) g.there;
          last = (let z : length (vs ++ not p t ∷ []) ≡ suc (suc (top (length ts) t)) = omega (arith, longer, g.last) in z);
          there = get_or_at vs (not p t) [] d (suc (top (length ts) t)) g.last;
          kept = λ i l. get_or_append_left vs (not p t ∷ []) d i (omega (arith, g.more)) ∙ g.kept i l;
          more = omega (arith, longer, g.more);
        },
      )
  grows ts (and p a b) =
      let x = grows ts a in
      let y = grows x.0 b in
      let e = parts ts a b x.0 y.0 x.1 y.1 in
      (y.0 ++ and p a b ∷ [], binary ts a b (and p a b) x.0 y.0 _ x.1 y.1 refl refl (ap (λ z. and p z (get_or y.0 (top (suc (top (length ts) a)) b) d)) e.0 ∙ ap (and p a) e.1))
  grows ts (or p a b) =
      let x = grows ts a in
      let y = grows x.0 b in
      let e = parts ts a b x.0 y.0 x.1 y.1 in
      (y.0 ++ or p a b ∷ [], binary ts a b (or p a b) x.0 y.0 _ x.1 y.1 refl refl (ap (λ z. or p z (get_or y.0 (top (suc (top (length ts) a)) b) d)) e.0 ∙ ap (or p a) e.1))
  grows ts (then p a b) =
      let x = grows ts a in
      let y = grows x.0 b in
      let e = parts ts a b x.0 y.0 x.1 y.1 in
      (y.0 ++ then p a b ∷ [], binary ts a b (then p a b) x.0 y.0 _ x.1 y.1 refl refl (ap (λ z. then p z (get_or y.0 (top (suc (top (length ts) a)) b) d)) e.0 ∙ ap (then p a) e.1))

  -- the table of a tree has the tree at its top
  pub table_holds : (t : Tree A) → get_or (trees d (post 0 t)) (top 0 t) d ≡ t
  table_holds t =
      let g = grows [] t in
      ap (λ ns. get_or (grown d [] ns) (top 0 t) d) (sym (append-nil (post 0 t))) ∙ ap (λ us. get_or us (top 0 t) d) (g.1.all []) ∙ g.1.there

-- the tree of its table is the tree
pub last_tree : {A : Type 0} (d t : Tree A) → get_or (trees d (post 0 t)) (length (post 0 t) - 1) d ≡ t
last_tree d t =
    let n = post_length 0 t in
    let m = top_size 0 t in
    ap (λ i. get_or (trees d (post 0 t)) i d) (let z : length (post 0 t) - 1 ≡ top 0 t = omega arith in z) ∙ table_holds d t

pub tree_of_post : (t : Tree (Pair ℕ)) → tree_of (post 0 t) ≡ t
tree_of_post t = last_tree blank t
