use Rattle.std.proofs.Common.{◌≡◌, suc, ◌*◌, ◌≤◌, true, length, sym, ap, ◌∙◌, subst, arith, rules}
use Rattle.std.proofs.lemmas.List.{length-take, take_all}
use Rattle.formula.specs.Evaluation.{parts_first}
use Rattle.formula.specs.declared.normal.NormalForm.{NormalForm}
use Rattle.formula.specs.LiteralTable.{all_plain}
use Rattle.formula.specs.NormalForms.{normal_nodes, normal_tree}
use Rattle.formula.specs.TableLaws.{OneTree}
use Rattle.formula.specs.Tree.{size}
use Rattle.formula.specs.Words.{words}
use Rattle.formula.proofs.Growth.{post_length}
use Rattle.formula.proofs.Monotony.{monotone}
use Rattle.formula.proofs.NormalTrees.{few_words, normal_size}
use Rattle.formula.proofs.Parenthood.{one_tree, post_first}
use Rattle.formula.proofs.PlainTables.{post_plain}
use Rattle.formula.proofs.normal.NormalForm.nodes.Goals as goal

-- how many nodes there are
nodes_count : (f : NormalForm) → (length (normal_nodes f) ≡ size (normal_tree f)) × (length (normal_nodes f) ≤ 32)
nodes_count f = (
  ap length (sym f.whole) ∙ post_length 0 (normal_tree f),
  omega (arith, f.nodes.few, length-take f.nodes.count f.nodes.items),
)

pub returns : goal.returns
returns c =
    let f = c.args.self.now in
    record {
      items = search (rules, take_all);
      tree = subst OneTree (f.whole ∙ sym (search (rules, take_all))) (one_tree (normal_tree f));
      first =
          (let first : parts_first 0 (normal_nodes f) ≡ true = ap (parts_first 0) (sym f.whole) ∙ post_first (normal_tree f) in
          search (rules, take_all));
      count =
          (let exact : length (normal_nodes f) ≡ suc (2 * words (normal_tree f)) = (nodes_count f).0 ∙ normal_size (normal_tree f) f.normal in
          search (rules, take_all));
      plain =
          (let plain : all_plain (normal_nodes f) ≡ true = ap all_plain (sym f.whole) ∙ post_plain 0 (normal_tree f) ∙ f.normal in
          search (rules, take_all));
      form = record {
        only = f.normal;
        places = f.in_order;
        few = few_words (normal_tree f) (omega (arith, nodes_count f));
        monotone = monotone (normal_tree f) f.normal;
      };
    }
