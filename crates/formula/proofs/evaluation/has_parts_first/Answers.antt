use Rattle.std.proofs.Common.{rules, tests, ◌∙◌}
use Rattle.std.proofs.lemmas.Iterator.{YieldsList-from_slice}
use Rattle.std.proofs.lemmas.Iterator.Consumers.{YieldsList-from_enumerate, YieldsList-at}
use Rattle.std.proofs.lemmas.Iterator.Search.{all_from_yields_List}
use Rattle.formula.specs.Evaluation.{all_below}
use Rattle.formula.specs.Parts.{parts}
use Rattle.formula.proofs.PartsFirst.{all_numbered}
use Rattle.formula.proofs.evaluation.has_parts_first.Goals as goal

pub returns : goal.returns
returns g c =
    all_from_yields_List (λ p. all_below p.0 (parts p.1)) _ _ _ c.all.ensures.ran
    (YieldsList-from_enumerate (YieldsList-at c.enumerate.ensures.source (YieldsList-from_slice c.args.nodes.now cc)) c.enumerate.ensures.count)
    (λ x b q k. search (rules, tests))
    ∙ all_numbered 0 c.args.nodes.now
