use Rattle.std.proofs.Common.{◌≡◌, true, sym, ap, ◌∙◌, subst, rules}
use Rattle.std.proofs.lemmas.List.{take_all}
use Rattle.formula.specs.Evaluation.{parts_first}
use Rattle.formula.specs.Formulas.{nodes_of, formula_tree}
use Rattle.formula.specs.TableLaws.{OneTree}
use Rattle.formula.proofs.Parenthood.{one_tree, post_first}
use Rattle.formula.proofs.formula.Formula.nodes.Goals as goal

pub returns : goal.returns
returns c =
    let f = c.args.self.now in
    record {
      items = search (rules, take_all);
      tree = subst OneTree (f.whole ∙ sym (search (rules, take_all))) (one_tree (formula_tree f));
      first =
          (let first : parts_first 0 (nodes_of f) ≡ true = ap (parts_first 0) (sym f.whole) ∙ post_first (formula_tree f) in
          search (rules, take_all));
      places = f.in_order;
    }
