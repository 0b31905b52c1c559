-- A table that holds the nodes of a formula's normal form.
use Rattle.std.proofs.Common.{◌≡◌, ℕ, ◌+◌, ◌-◌, ◌≤◌, true, List, [], ◌++◌, length, sym, ap, ◌∙◌, subst, ap₂, arith}
use Rattle.formula.specs.declared.literal.Literal.{Literal}
use Rattle.formula.specs.declared.node.Node.{Node}
use Rattle.formula.specs.declared.node.Pair.{Pair}
use Rattle.formula.specs.LiteralTable.{blank_literal, literal_tree_of}
use Rattle.formula.specs.Normal.{nnf, is_normal, literal_place}
use Rattle.formula.specs.NormalLaws.{Kept}
use Rattle.formula.specs.Scales.{two, three}
use Rattle.formula.specs.Table.{post, node_tree, tree_of, pair_place}
use Rattle.formula.specs.Tree.{Tree, size, spans}
use Rattle.formula.proofs.Growth.{last_tree, post_length}
use Rattle.formula.proofs.NormalTrees.{nnf_normal, nnf_pairs, nnf_words, nnf_size}
use Rattle.formula.proofs.Places.{nnf_places}
use Rattle.formula.specs.Scaled.{two_laws, three_laws}
use Rattle.formula.proofs.Signs.{nnf_truth}

-- the top node of a table, by a copy of it and a count
pub top_tree : (ns ms : List (Node (Pair ℕ))) (n : ℕ) → ms ≡ ns → n ≡ length ns → node_tree ms (n - 1) ≡ tree_of ns
top_tree ns ms n e c = ap₂ (λ xs k. node_tree xs (k - 1)) e c

-- there is room for the normal form of a formula
pub room_made : (ns : List (Node (Pair ℕ))) (t : Tree (Pair ℕ)) (start : List (Node Literal)) → post 0 (tree_of ns) ≡ ns → t ≡ tree_of ns → length ns ≤ 32
    → start ≡ [] → length start + size (nnf true t) ≤ 32
room_made ns t start whole e few s =
    let a : length start ≡ 0 = ap length s in
    let b = nnf_size true t in
    let c : size t ≡ size (tree_of ns) = ap size e in
    let d = post_length 0 (tree_of ns) in
    let g : length (post 0 (tree_of ns)) ≡ length ns = ap length whole in
    omega arith

module _ (t u : Tree (Pair ℕ)) (start hs : List (Node Literal)) (s : start ≡ []) (e : u ≡ t) (more : hs ≡ start ++ post (length start) (nnf true u)) where
  holds : hs ≡ post 0 (nnf true t)
  holds = more ∙ ap₂ (λ xs w. xs ++ post (length xs) (nnf true w)) s e

  pub made_tree : literal_tree_of hs ≡ nnf true t
  made_tree = ap literal_tree_of holds ∙ last_tree blank_literal (nnf true t)

  pub made_whole : post 0 (literal_tree_of hs) ≡ hs
  made_whole = ap (post 0) made_tree ∙ sym holds

  pub made_normal : is_normal (literal_tree_of hs) ≡ true
  made_normal = ap is_normal made_tree ∙ nnf_normal true t

  pub made_in_order : spans pair_place 0 512 t ≡ true → spans literal_place 0 512 (literal_tree_of hs) ≡ true
  made_in_order h = ap (spans literal_place 0 512) made_tree ∙ nnf_places true t 0 512 h

  pub made_kept : Kept t (literal_tree_of hs)
  made_kept = subst (Kept t) (sym made_tree)
      (record { pairs = nnf_pairs true t; joins = nnf_words true t; in_two = λ v. nnf_truth two two_laws v true t; in_three = λ v. nnf_truth three three_laws v true t })
