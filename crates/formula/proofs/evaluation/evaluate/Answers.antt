use Rattle.std.proofs.Common.{length, drop, sym, subst, ◌∙◌}
use Rattle.formula.specs.TruthLaws.{TruthsOfTrees}
use Rattle.formula.proofs.TreeTruths.{ready_first, truths_of_trees}
use Rattle.formula.proofs.evaluation.evaluate.Goals as goal

pub returns-clause-trees : goal.returns-clause-trees
returns-clause-trees g c =
    let s = g.S.Scale in
    let ns = c.args.nodes.now in
    let ls = c.args.leaves.now in
    let old = c.args.truths.now in
    let first = ready_first ns (length ls) (length old) _ (sym c.check.ensures ∙ c.in_ok-check.was) in
    subst (TruthsOfTrees s.ops s.blank ns ls) (sym c.fill.ensures) (truths_of_trees s.ops s.blank ns ls (drop (length ns) old) first)
