-- In the table of a tree parts stand before the whole, and every node but the top one is named once.
use Rattle.std.proofs.Common.{◌≡◌, ℕ, zero, suc, ◌+◌, ◌<◌, ◌≤◌, true, cond, ◌&&◌, ltb, leb, List, [], ◌∷◌, ◌++◌, length, refl, ap, ◌∙◌, subst, ap₂, arith}
use Rattle.std.proofs.lemmas.Bool.{and_from}
use Rattle.std.proofs.lemmas.Bool.Decides.{nat_tests}
use Rattle.formula.specs.declared.node.Node.{Node}
use Rattle.formula.specs.declared.node.Node.TheVariants.{Not}
use Rattle.formula.specs.Tree.{Tree, leaf, not, and, or, then}
use Rattle.formula.specs.Table.{top, post}
use Rattle.formula.specs.Parts.{parts, parts_at, AllBelow, times, mentions}
use Rattle.formula.specs.TableLaws.{OneTree}
use Rattle.formula.specs.Evaluation.{all_below, parts_first}
use Rattle.formula.proofs.PartsFirst.{below_from}
use Rattle.formula.proofs.Growth.{top_size, post_length}

pub top_from : {A : Type 0} (k : ℕ) (t : Tree A) → k ≤ top k t
top_from k (leaf a) = omega arith
top_from k (not p t) = let h = top_from k t in omega arith
top_from k (and p t u) = let h = top_from k t in let g = top_from (suc (top k t)) u in omega arith
top_from k (or p t u) = let h = top_from k t in let g = top_from (suc (top k t)) u in omega arith
top_from k (then p t u) = let h = top_from k t in let g = top_from (suc (top k t)) u in omega arith

-- the nodes of a list whose first stands at k: each names lower indices only
abbrev Lower : {A : Type 0} → ℕ → List (Node A) → Type 0
Lower k [] = Unit {0}
Lower k (n ∷ ns) = AllBelow k (parts n) × Lower (suc k) ns

lower_append : {A : Type 0} (k m : ℕ) (xs ys : List (Node A)) → k + length xs ≡ m → Lower k xs → Lower m ys → Lower k (xs ++ ys)
lower_append k m [] ys e h g = subst (λ j. Lower j ys) (let z : m ≡ k = omega arith in z) g
lower_append k m (x ∷ xs) ys e h g = (h.0, lower_append (suc k) m xs ys (omega arith) h.1 g)

-- two parts and the node over them
lower_both : {A : Type 0} (k : ℕ) (t u : Tree A) (n : Node A) → Lower k (post k t) → Lower (suc (top k t)) (post (suc (top k t)) u)
    → AllBelow (suc (top (suc (top k t)) u)) (parts n) → Lower k (post k t ++ (post (suc (top k t)) u ++ n ∷ []))
lower_both k t u n h g b =
    let l = post_length k t in let s = top_size k t in
    let m = post_length (suc (top k t)) u in let r = top_size (suc (top k t)) u in
    lower_append k (suc (top k t)) (post k t) (post (suc (top k t)) u ++ n ∷ []) (omega arith) h
    (lower_append (suc (top k t)) (suc (top (suc (top k t)) u)) (post (suc (top k t)) u) (n ∷ []) (omega arith) g (b, tt))

lower : {A : Type 0} (k : ℕ) (t : Tree A) → Lower k (post k t)
lower k (leaf a) = (tt, tt)
lower k (not p t) =
    let l = post_length k t in let s = top_size k t in
    lower_append k (suc (top k t)) (post k t) (Not p (top k t) ∷ []) (omega arith) (lower k t) ((omega arith, tt), tt)
lower k (and p t u) = let f = top_from (suc (top k t)) u in lower_both k t u _ (lower k t) (lower (suc (top k t)) u) (omega arith, (omega arith, tt))
lower k (or p t u) = let f = top_from (suc (top k t)) u in lower_both k t u _ (lower k t) (lower (suc (top k t)) u) (omega arith, (omega arith, tt))
lower k (then p t u) = let f = top_from (suc (top k t)) u in lower_both k t u _ (lower k t) (lower (suc (top k t)) u) (omega arith, (omega arith, tt))

lower_first : {A : Type 0} (k : ℕ) (ns : List (Node A)) → Lower k ns → parts_first k ns ≡ true
lower_first k [] h = refl
lower_first k (n ∷ ns) h = and_from (all_below k (parts n)) (parts_first (suc k) ns) (below_from k (parts n) h.0) (lower_first (suc k) ns h.1)

pub post_first : {A : Type 0} (t : Tree A) → parts_first 0 (post 0 t) ≡ true
post_first t = lower_first 0 (post 0 t) (lower 0 t)

lower_at : {A : Type 0} (k i : ℕ) (ns : List (Node A)) → Lower k ns → i < length ns → AllBelow (k + i) (parts_at ns i)
lower_at k i [] h l = absurd (omega arith)
lower_at k zero (n ∷ ns) h l = subst (λ j. AllBelow j (parts n)) (let z : k ≡ k + 0 = omega arith in z) h.0
lower_at k (suc i) (n ∷ ns) h l = subst (λ j. AllBelow j (parts_at ns i)) (let z : suc k + i ≡ k + suc i = omega arith in z) (lower_at (suc k) i ns h.1 (omega arith))

mentions_append : {A : Type 0} (xs ys : List (Node A)) (i : ℕ) → mentions (xs ++ ys) i ≡ mentions xs i + mentions ys i
mentions_append [] ys i = omega arith
mentions_append (x ∷ xs) ys i = let h = mentions_append xs ys i in omega arith

-- one for an index from k on and before n, nothing for any other
abbrev within : ℕ → ℕ → ℕ → ℕ
within k n i = cond (leb k i && ltb i n) 1 0

within_none : (k i : ℕ) → 0 ≡ within k k i
within_none k i = grind (arith, nat_tests)

within_one : (k a i : ℕ) → k ≤ a → within k a i + (times i (a ∷ []) + 0) ≡ within k (suc a) i
within_one k a i h = grind (arith, nat_tests)

within_two : (k a b i : ℕ) → k ≤ a → suc a ≤ b → within k a i + (within (suc a) b i + (times i (a ∷ b ∷ []) + 0)) ≡ within k (suc b) i
within_two k a b i h g = grind (arith, nat_tests)

module _ {A : Type 0} where
  named_both : (k i : ℕ) (t u : Tree A) (n : Node A) → parts n ≡ top k t ∷ top (suc (top k t)) u ∷ []
      → mentions (post k t) i ≡ within k (top k t) i
      → mentions (post (suc (top k t)) u) i ≡ within (suc (top k t)) (top (suc (top k t)) u) i
      → mentions (post k t ++ (post (suc (top k t)) u ++ n ∷ [])) i ≡ within k (suc (top (suc (top k t)) u)) i
  named_both k i t u n e h g =
      mentions_append (post k t) (post (suc (top k t)) u ++ n ∷ []) i
      ∙ ap₂ (λ x y. x + y) h (mentions_append (post (suc (top k t)) u) (n ∷ []) i ∙ ap₂ (λ x y. x + y) g (ap (λ is. times i is + 0) e))
      ∙ within_two k (top k t) (top (suc (top k t)) u) i (top_from k t) (top_from (suc (top k t)) u)

  named : (k i : ℕ) (t : Tree A) → mentions (post k t) i ≡ within k (top k t) i
  named k i (leaf a) = (let z : 0 + 0 ≡ 0 = refl in z) ∙ within_none k i
  named k i (not p t) =
      mentions_append (post k t) (Not p (top k t) ∷ []) i ∙ ap (λ x. x + (times i (top k t ∷ []) + 0)) (named k i t)
      ∙ within_one k (top k t) i (top_from k t)
  named k i (and p t u) = named_both k i t u _ refl (named k i t) (named (suc (top k t)) i u)
  named k i (or p t u) = named_both k i t u _ refl (named k i t) (named (suc (top k t)) i u)
  named k i (then p t u) = named_both k i t u _ refl (named k i t) (named (suc (top k t)) i u)

  pub one_tree : (t : Tree A) → OneTree (post 0 t)
  one_tree t =
      let l = post_length 0 t in
      let s = top_size 0 t in
      record {
        before = λ i h. subst (λ j. AllBelow j (parts_at (post 0 t) i)) (let z : 0 + i ≡ i = omega arith in z) (lower_at 0 i (post 0 t) (lower 0 t) h);
        once = λ i h. named 0 i t ∙ (let z : i < top 0 t = omega arith in grind (arith, nat_tests));
        last = λ i h. named 0 i t ∙ (let z : i ≡ top 0 t = omega arith in grind (arith, nat_tests));
      }

-- at least one node
pub some_node : {A : Type 0} (t : Tree A) → 1 ≤ length (post 0 t)
some_node t = let l = post_length 0 t in let s = top_size 0 t in omega arith
