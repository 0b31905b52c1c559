-- The table of a normal form has only leaves, `and` and `or`.
use Rattle.std.proofs.Common.{◌≡◌, ℕ, zero, suc, ◌<◌, Bool, true, ◌&&◌, List, [], ◌∷◌, ◌++◌, length, get_or, refl, ap, ◌∙◌, ap₂, arith}
use mathlib.Core.Bool.{and-true, and-false}
use Rattle.std.proofs.lemmas.Bool.{and_parts}
use Rattle.std.proofs.lemmas.List.Folds.{list_all-append}
use Rattle.formula.specs.declared.node.Node.{Node}
use Rattle.formula.specs.declared.node.Node.TheVariants.{Not}
use Rattle.formula.specs.LiteralTable.{is_plain, all_plain}
use Rattle.formula.specs.Normal.{is_normal}
use Rattle.formula.specs.Table.{top, post}
use Rattle.formula.specs.Tree.{Tree, leaf, not, and, or, then}

module _ {A : Type 0} where
  -- two parts and the node over them
  plain_both : (xs ys : List (Node A)) (n : Node A) (a b : Bool) → all_plain xs ≡ a → all_plain ys ≡ b → all_plain (xs ++ (ys ++ n ∷ [])) ≡ (a && (b && (is_plain n && true)))
  plain_both xs ys n a b h g = list_all-append is_plain xs (ys ++ n ∷ []) ∙ ap₂ (λ x y. x && y) h (list_all-append is_plain ys (n ∷ []) ∙ ap (λ y. y && (is_plain n && true)) g)

  pub post_plain : (k : ℕ) (t : Tree A) → all_plain (post k t) ≡ is_normal t
  post_plain k (leaf a) = refl
  post_plain k (not p t) = list_all-append is_plain (post k t) (Not p (top k t) ∷ []) ∙ and-false (all_plain (post k t))
  post_plain k (and p t u) =
      plain_both (post k t) (post (suc (top k t)) u) _ _ _ (post_plain k t) (post_plain (suc (top k t)) u) ∙ ap (λ b. is_normal t && b) (and-true (is_normal u))
  post_plain k (or p t u) =
      plain_both (post k t) (post (suc (top k t)) u) _ _ _ (post_plain k t) (post_plain (suc (top k t)) u) ∙ ap (λ b. is_normal t && b) (and-true (is_normal u))
  post_plain k (then p t u) =
      plain_both (post k t) (post (suc (top k t)) u) _ _ _ (post_plain k t) (post_plain (suc (top k t)) u)
      ∙ ap (λ b. is_normal t && b) (and-false (is_normal u)) ∙ and-false (is_normal t)

  -- each node of such a table
  pub plain_at : (ns : List (Node A)) (i : ℕ) (n : Node A) → all_plain ns ≡ true → i < length ns → n ≡ get_or ns i n → is_plain n ≡ true
  plain_at [] i n h l is = absurd (omega arith)
  plain_at (m ∷ ns) zero n h l is = ap is_plain is ∙ (and_parts (is_plain m) (all_plain ns) h).0
  plain_at (m ∷ ns) (suc i) n h l is = plain_at ns i n (and_parts (is_plain m) (all_plain ns) h).1 (omega arith) is
