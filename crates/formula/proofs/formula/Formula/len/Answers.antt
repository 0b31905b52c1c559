use Rattle.std.proofs.Common.{◌≡◌, ◌≤◌, length, ap, arith}
use Rattle.std.proofs.lemmas.List.{length-take}
use Rattle.formula.specs.Formulas.{nodes_of, formula_tree}
use Rattle.formula.specs.Table.{post}
use Rattle.formula.proofs.Growth.{post_length}
use Rattle.formula.proofs.NormalTrees.{few_words}
use Rattle.formula.proofs.Parenthood.{some_node}
use Rattle.formula.proofs.formula.Formula.len.Goals as goal

pub returns : goal.returns
returns c =
    let f = c.args.self.now in
    let count : length c.nodes.result.now ≡ length (nodes_of f) = ap length c.nodes.ensures.items in
    let some = some_node (formula_tree f) in
    let size = post_length 0 (formula_tree f) in
    let same : length (post 0 (formula_tree f)) ≡ length (nodes_of f) = ap length f.whole in
    let most : length (nodes_of f) ≤ 32 = omega (arith, f.nodes.few, length-take f.nodes.count f.nodes.items) in
    record { count = count; bounds = (omega arith, omega arith); words = few_words (formula_tree f) (omega arith) }
