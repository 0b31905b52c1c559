use Rattle.std.proofs.Common.{◌≡◌, true, false, ◌++◌, codes, map, Ok, Err, IfOk, ap, ◌∙◌}
use Rattle.std.specs.Prelude.{string_bytes}
use Rattle.formula.specs.LiteralTable.{blank_literal, literal_tree_of}
use Rattle.formula.specs.Normal.{nnf}
use Rattle.formula.specs.Scales.{two}
use Rattle.formula.specs.Table.{blank, tree_of}
use Rattle.formula.specs.Truth.{truth}
use Rattle.grammar.specs.Readings.{said}
use Rattle.catalogue.specs.Firing.{fires, spoken}
use Rattle.catalogue.specs.Replies.{taken_reply}
use Rattle.catalogue.specs.Texts.{shown_pair, shown_literal, shown_tree}
use Rattle.catalogue.proofs.Replying.{taken_from}
use Rattle.catalogue.proofs.report.taken_text.Goals as goal

pub returns : goal.returns
returns c =
    let x = said c.args.rule.now in
    let names = map string_bytes c.deref.result.now in
    let text = string_bytes c.in_ok-text.text in
    let normal = string_bytes c.in_ok-normal.normal in
    let alone = c.word-alone.result.now in
    let together = c.word-together.result.now in
    let whole = taken_from x names text normal alone together
    (ap (map string_bytes) c.deref.ensures.value ∙ c.in_ok-names.ensures)
    (c.in_ok-text.ensures blank ∙ ap (λ ns. shown_tree (shown_pair names) (tree_of ns)) c.table.ensures ∙ ap (shown_tree (shown_pair names)) c.formula-formula.ensures)
    (c.in_ok-normal.ensures blank_literal ∙ ap (λ ns. shown_tree (shown_literal names) (literal_tree_of ns)) c.table-2.ensures
    ∙ ap (shown_tree (shown_literal names)) (c.normal.ensures.tree ∙ ap (nnf true) c.formula-formula.ensures))
    (c.word-alone.ensures ∙ ap spoken (c.firing_truth.ensures ∙ ap (truth two (fires false)) c.formula-formula.ensures))
    (c.word-together.ensures ∙ ap spoken (c.firing_truth-2.ensures ∙ ap (truth two (fires true)) c.formula-formula.ensures)) in
    elim c.format.result as (λ r. IfOk r (λ s. string_bytes s ≡ text ++ (codes "\n  normal form " ++ (normal ++ (codes "\n  alone " ++ (alone ++ (codes ", together " ++ (together ++ codes "\n"))))))) → IfOk r (λ s. string_bytes s ≡ taken_reply x))
    [ Ok s ↦ λ e. e ∙ whole | Err e ↦ λ _. tt ] c.format.ensures.ok
