-- Texts of the nodes of a table, one after another: the last is the text of the table's tree. Rests on TableTrees of crate formula.
use Rattle.std.proofs.Common.{◌≡◌, ℕ, suc, ◌-◌, ◌<◌, ◌≤◌, true, List, [], ◌∷◌, ◌++◌, length, get_or, drop, map, codes, refl, sym, ap, ap₂, ◌∙◌, subst, arith, length-append}
use Rattle.std.proofs.lemmas.Bool.{and_parts}
use Rattle.std.proofs.lemmas.List.{drop_all, get_or-map, length-map, map-append}
use Rattle.formula.specs.declared.node.Node.{Node}
use Rattle.formula.specs.declared.node.Node.TheVariants.{Leaf, Not, And, Or, Then}
use Rattle.formula.specs.Evaluation.{all_below, parts_first}
use Rattle.formula.specs.Parts.{parts}
use Rattle.formula.specs.Table.{shape, grown, trees}
use Rattle.formula.specs.Tree.{Tree}
use Rattle.formula.proofs.PartsFirst.{below_one, below_two}
use Rattle.formula.proofs.TableTrees.{grown_length}
use Rattle.catalogue.specs.Texts.{text_at, last_text, between, shown_node, shown_tree}

-- the texts of nodes, each over those written before
abbrev pub written_nodes : {A : Type 0} → (A → List ℕ) → List (List ℕ) → List (Node A) → List (List ℕ)
written_nodes atom done [] = done
written_nodes atom done (n ∷ ns) = written_nodes atom (done ++ shown_node atom done n ∷ []) ns

module _ {A : Type 0} (atom : A → List ℕ) (d : Tree A) where
  part_shown : (ts : List (Tree A)) (i : ℕ) → i < length ts → text_at (map (shown_tree atom) ts) i ≡ shown_tree atom (get_or ts i d)
  part_shown ts i l = get_or-map (shown_tree atom) ts i d [] l

  node_shown : (ts : List (Tree A)) (n : Node A) → all_below (length ts) (parts n) ≡ true → shown_node atom (map (shown_tree atom) ts) n ≡ shown_tree atom (shape d ts n)
  node_shown ts (Leaf a) h = refl
  node_shown ts (Not p i) h = ap (λ (s : List ℕ). codes "not " ++ s) (part_shown ts i (below_one _ i h))
  node_shown ts (And p i j) h = let b = below_two _ i j h in ap₂ (between (codes "and")) (part_shown ts i b.0) (part_shown ts j b.1)
  node_shown ts (Or p i j) h = let b = below_two _ i j h in ap₂ (between (codes "or")) (part_shown ts i b.0) (part_shown ts j b.1)
  node_shown ts (Then p i j) h = let b = below_two _ i j h in ap₂ (between (codes "then")) (part_shown ts i b.0) (part_shown ts j b.1)

  nodes_shown : (ts : List (Tree A)) (ns : List (Node A)) → parts_first (length ts) ns ≡ true → written_nodes atom (map (shown_tree atom) ts) ns ≡ map (shown_tree atom) (grown d ts ns)
  nodes_shown ts [] f = refl
  nodes_shown ts (n ∷ ns) f =
      let b = and_parts (all_below (length ts) (parts n)) (parts_first (suc (length ts)) ns) f in
      let more : suc (length ts) ≡ length (ts ++ shape d ts n ∷ []) = omega (arith, length-append ts (shape d ts n ∷ [])) in
      ap (λ (s : List ℕ). written_nodes atom (map (shown_tree atom) ts ++ s ∷ []) ns) (node_shown ts n b.0)
      ∙ ap (λ (ss : List (List ℕ)). written_nodes atom ss ns) (sym (map-append (shown_tree atom) ts (shape d ts n ∷ [])))
      ∙ nodes_shown (ts ++ shape d ts n ∷ []) ns (subst (λ k. parts_first k ns ≡ true) more b.1)

  whole_shown : (ns : List (Node A)) → parts_first 0 ns ≡ true → 0 < length ns → last_text (written_nodes atom [] ns) ≡ shown_tree atom (get_or (trees d ns) (length ns - 1) d)
  whole_shown ns f some =
      let size = grown_length d [] ns in
      ap last_text (nodes_shown [] ns f)
      ∙ ap (λ k. text_at (map (shown_tree atom) (trees d ns)) (k - 1)) (length-map (trees d ns) (shown_tree atom))
      ∙ part_shown (trees d ns) (length (trees d ns) - 1) (omega arith)
      ∙ ap (λ k. shown_tree atom (get_or (trees d ns) (k - 1) d)) (let z : length (trees d ns) ≡ length ns = omega arith in z)

  -- after the last turn of the loop that writes them
  pub whole_written : (ns : List (Node A)) → parts_first 0 ns ≡ true → 0 < length ns → (texts : List (List ℕ)) (i : ℕ) → length ns ≤ i
      → written_nodes atom texts (drop i ns) ≡ written_nodes atom [] ns → last_text texts ≡ shown_tree atom (get_or (trees d ns) (length ns - 1) d)
  whole_written ns f some texts i all e = ap last_text (sym (ap (written_nodes atom texts) (drop_all i ns all)) ∙ e) ∙ whole_shown ns f some
