-- Tests that all leaves of a table pass, as all atoms of its tree do.
use Rattle.std.proofs.Common.{◌≡◌, ℕ, suc, Bool, true, ◌&&◌, List, [], ◌∷◌, ◌++◌, sym, refl, ap, ◌∙◌, ap₂}
use mathlib.Core.Bool.{and-true}
use Rattle.std.proofs.lemmas.List.Folds.{list_all-append}
use Rattle.formula.specs.declared.node.Node.{Node}
use Rattle.formula.specs.declared.node.Node.TheVariants.{Not}
use Rattle.formula.specs.declared.node.Pair.{Pair}
use Rattle.formula.specs.Table.{top, post, tree_of}
use Rattle.formula.specs.Tree.{Tree, leaf, not, and, or, then, every}
use Rattle.rules.specs.Leaves.{leaf_passes, leaves_pass}

module _ {A : Type 0} (q : A → Bool) where
  -- a word behind a table
  pass_word : (xs : List (Node A)) (n : Node A) → leaf_passes q n ≡ true → leaves_pass q (xs ++ n ∷ []) ≡ leaves_pass q xs
  pass_word xs n e = list_all-append (leaf_passes q) xs (n ∷ []) ∙ ap (λ b. leaves_pass q xs && (b && true)) e ∙ and-true (leaves_pass q xs)

  -- two parts and the word over them
  pass_both : (xs ys : List (Node A)) (n : Node A) (a b : Bool) → leaf_passes q n ≡ true → leaves_pass q xs ≡ a → leaves_pass q ys ≡ b → leaves_pass q (xs ++ (ys ++ n ∷ [])) ≡ (a && b)
  pass_both xs ys n a b e h g = list_all-append (leaf_passes q) xs (ys ++ n ∷ []) ∙ ap₂ (λ x y. x && y) h (pass_word ys n e ∙ g)

  pub post_passes : (k : ℕ) (t : Tree A) → leaves_pass q (post k t) ≡ every q t
  post_passes k (leaf a) = and-true (q a)
  post_passes k (not p t) = pass_word (post k t) (Not p (top k t)) refl ∙ post_passes k t
  post_passes k (and p t u) = pass_both (post k t) (post (suc (top k t)) u) _ _ _ refl (post_passes k t) (post_passes (suc (top k t)) u)
  post_passes k (or p t u) = pass_both (post k t) (post (suc (top k t)) u) _ _ _ refl (post_passes k t) (post_passes (suc (top k t)) u)
  post_passes k (then p t u) = pass_both (post k t) (post (suc (top k t)) u) _ _ _ refl (post_passes k t) (post_passes (suc (top k t)) u)

-- the leaves of a formula's table
pub formula_leaves : (q : Pair ℕ → Bool) (ns all : List (Node (Pair ℕ))) → post 0 (tree_of ns) ≡ ns → all ≡ ns → every q (tree_of ns) ≡ true → leaves_pass q all ≡ true
formula_leaves q ns all whole e h = ap (leaves_pass q) (e ∙ sym whole) ∙ post_passes q 0 (tree_of ns) ∙ h
