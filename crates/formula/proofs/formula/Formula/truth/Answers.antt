use Rattle.std.proofs.Common.{◌≡◌, ℕ, ◌-◌, ◌≤◌, List, length, ap, ◌∙◌, arith}
use Rattle.formula.specs.declared.node.Node.{Node}
use Rattle.formula.specs.declared.node.Pair.{Pair}
use Rattle.formula.specs.Scales.{two}
use Rattle.formula.specs.Table.{blank, node_tree, tree_of}
use Rattle.formula.specs.Truth.{truth}
use Rattle.formula.proofs.TreeTruths.{ready_for, where_ok}
use Rattle.formula.proofs.formula.Formula.truth.Goals as goal

pub returns : goal.returns
returns g c v computes =
    let ns = c.nodes-nodes.result.now in
    let size = ap length c.nodes-nodes.ensures.items in
    let most : length ns ≤ 32 = omega (arith, c.len-last.ensures.count, c.len-last.ensures.bounds.1) in
    let known : length ns ≤ length c.leaf_truths-leaves.result = omega (arith, c.leaf_truths-leaves.ensures.wide) in
    let can = c.evaluate.ensures.answer ∙ ready_for ns (length c.leaf_truths-leaves.result) 32 known most c.nodes-nodes.ensures.first in
    let last : c.len-last.result - 1 ≡ length ns - 1 = omega (arith, c.len-last.ensures.count) in
    where_ok c.evaluate.result can c.evaluate.ensures.trees v (c.leaf_truths-leaves.ensures.truths v computes) blank (c.len-last.result - 1) (omega (arith, c.len-last.ensures.count, c.len-last.ensures.bounds.0))
    ∙ ap (λ i. truth two v (node_tree ns i)) last
    ∙ ap (λ (ms : List (Node (Pair ℕ))). truth two v (tree_of ms)) c.nodes-nodes.ensures.items
