-- The truths of the nodes of a table are those of their trees over the atoms.
use Rattle.std.proofs.Common.{◌≡◌, ℕ, zero, suc, ◌+◌, ◌<◌, ◌≤◌, Bool, true, false, cond, ltb, List, ◌++◌, length, get_or, Ok, Err, refl, ap, sym, ◌∙◌, arith}
use Rattle.std.specs.Prelude.{Result, is_ok, OnOk}
use Rattle.std.proofs.lemmas.List.{get_or_default, get_or_append_left}
use Rattle.std.proofs.lemmas.Bool.{false≢true, and_from, le-leb}
use Rattle.formula.specs.declared.evaluation.NotReady.TheVariants.{TooFewLeaves, TooLittleRoom, PartNotBefore}
use Rattle.formula.specs.declared.node.Node.{Node}
use Rattle.formula.specs.declared.node.Node.TheVariants.{Leaf, Not, And, Or, Then}
use Rattle.formula.specs.Evaluation.{node_truths, all_below, parts_first, ready, readiness, weighed}
use Rattle.formula.specs.Ops.{Ops}
use Rattle.formula.specs.Parts.{parts}
use Rattle.formula.specs.Table.{shape, trees}
use Rattle.formula.specs.Tree.{Tree}
use Rattle.formula.specs.Truth.{truth}
use Rattle.formula.specs.TruthLaws.{LeafTruths, TruthsOfTrees}
use Rattle.formula.proofs.PartsFirst.{first_at}
use Rattle.formula.proofs.TableTrees.{tree_step}
use Rattle.formula.proofs.Weighing.{weighed_same, truth_step, truths_length}

module _ {S A : Type 0} (o : Ops S) (d : S) (v : A → S) (e : Tree A) where
  truth_shape : (ts : List (Tree A)) (x : S) (n : Node A) → ((a : A) → n ≡ Leaf a → x ≡ v a)
      → weighed o x (λ j. truth o v (get_or ts j e)) n ≡ truth o v (shape e ts n)
  truth_shape ts x (Leaf a) h = h a refl
  truth_shape ts x (Not p i) h = refl
  truth_shape ts x (And p i j) h = refl
  truth_shape ts x (Or p i j) h = refl
  truth_shape ts x (Then p i j) h = refl

  module _ (ns : List (Node A)) (ls : List S) (f : parts_first 0 ns ≡ true) (shown : LeafTruths v d ns ls) where
    -- for the nodes before m
    before : (m i : ℕ) → i < m → i < length ns → get_or (node_truths o d ns ls) i d ≡ truth o v (get_or (trees e ns) i e)
    before zero i h l = absurd (omega arith)
    before (suc m) i h l =
        let n = get_or ns i (Not 0 0) in
        let is : n ≡ get_or ns i n = get_or_default ns i (Not 0 0) n l in
        let b : all_below i (parts n) ≡ true = ap (λ j. all_below j (parts n)) (let z : i ≡ 0 + i = omega arith in z) ∙ first_at 0 ns i n f l is in
        truth_step o d ns ls i n f l is
        ∙ weighed_same o (get_or ls i d) (λ j. get_or (node_truths o d ns ls) j d) (λ j. truth o v (get_or (trees e ns) j e)) i n b (λ j k. before m j (omega arith) (omega arith))
        ∙ truth_shape (trees e ns) (get_or ls i d) n (λ a w. shown i a l (get_or_default ns i (Leaf a) (Not 0 0) l ∙ w))
        ∙ ap (truth o v) (sym (tree_step e ns i n f l is))

pub truths_of_trees : {S A : Type 0} (o : Ops S) (d : S) (ns : List (Node A)) (ls old : List S) → parts_first 0 ns ≡ true
    → TruthsOfTrees o d ns ls (node_truths o d ns ls ++ old)
truths_of_trees o d ns ls old f v shown e i l =
    let size = truths_length o d ns ls in
    get_or_append_left (node_truths o d ns ls) old d i (omega arith) ∙ before o d v e ns ls f shown (suc i) i (omega arith) l

-- in a table that can be worked out parts stand before the whole
pub ready_first : {A : Type 0} (ns : List (Node A)) (leaves room : ℕ) (r : Unit {0}) → readiness ns leaves room ≡ Ok r → parts_first 0 ns ≡ true
ready_first ns leaves room r h = the_last (ltb leaves (length ns)) (ltb room (length ns)) (parts_first 0 ns) h
  where
    the_last : (few little first : Bool) → cond few (Err TooFewLeaves) (cond little (Err TooLittleRoom) (cond first (Ok tt) (Err PartNotBefore))) ≡ Ok r → first ≡ true
    the_last true little first e = absurd (false≢true (ap is_ok e))
    the_last false true first e = absurd (false≢true (ap is_ok e))
    the_last false false true e = refl
    the_last false false false e = absurd (false≢true (ap is_ok e))

-- there is a leaf truth and room for each node of a table, and parts stand before the whole
pub ready_for : {A : Type 0} (ns : List (Node A)) (leaves room : ℕ) → length ns ≤ leaves → length ns ≤ room → parts_first 0 ns ≡ true → ready ns leaves room ≡ true
ready_for ns leaves room h l f = and_from _ _ (and_from _ _ (le-leb (length ns) leaves h) (le-leb (length ns) room l)) f

-- what holds of a right answer holds where the answer is right
pub where_ok : {T E P : Type 0} (r : Result T E) → is_ok r ≡ true → OnOk r P → P
where_ok (Ok x) e h = h
where_ok (Err x) e h = absurd (false≢true e)
