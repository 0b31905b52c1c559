use Rattle.std.proofs.Common.{sym, ap, ◌∙◌, arith, subst}
use Rattle.std.proofs.lemmas.List.{length-take}
use Rattle.grammar.specs.Readings.{said}
use Rattle.rules.specs.Adding.{lots_added}
use Rattle.rules.specs.Entries.{Entries}
use Rattle.rules.specs.LotNames.{lots_in}
use Rattle.rules.specs.TakingLaws.{Took}
use Rattle.rules.specs.Views.{entered}
use Rattle.rules.proofs.MarkedRules.{entries_length}
use Rattle.rules.proofs.TakenLines.{took, made_over, rule_added, still_among, are_lots}
use Rattle.rules.proofs.tables.Tables.take.Goals as goal

pub invariant_of-line_lots : goal.invariant_of-line_lots
invariant_of-line_lots c = record { known = are_lots (lots_in c.args.self.now.lots) (lots_in c.in_ok-lots.lots) c.names-names.result.now (sym c.in_ok-lots.ensures) }

pub invariant_of-self : goal.invariant_of-self
invariant_of-self c =
    let t = c.args.self.now in
    let l = said c.args.line.now in
    let ls = lots_in t.lots in
    let ms = lots_in c.in_ok-lots.lots in
    let s = sym (c.in_ok-lots.ensures ∙ ap (lots_added ls) c.names-names.ensures) in
    let tree = made_over c.new.result c.over_lots-formula.result c.formula.result.now ms c.names-names.result.now l c.new.ensures.formula c.over_lots-formula.ensures c.names-names.ensures c.formula.ensures in
    record { over = still_among t.rules c.push-at.new.self c.new.result ls ms l c.push-at.ensures.more tree c.new.ensures.mark s c.args.line.now.named t.over }

pub returns-clause-took : goal.returns-clause-took
returns-clause-took c =
    let t = c.args.self.now in
    let l = said c.args.line.now in
    let ls = lots_in t.lots in
    let ms = lots_in c.in_ok-lots.lots in
    let size = entries_length t.rules in
    let s = sym (c.in_ok-lots.ensures ∙ ap (lots_added ls) c.names-names.ensures) in
    let tree = made_over c.new.result c.over_lots-formula.result c.formula.result.now ms c.names-names.result.now l c.new.ensures.formula c.over_lots-formula.ensures c.names-names.ensures c.formula.ensures in
    let added = rule_added t.rules c.push-at.new.self c.new.result ls ms l c.push-at.ensures.more tree c.new.ensures.mark in
    subst (λ (n : Entries). Took (entered t) n l) (sym added) (took (entered t) l ms (omega arith) (omega (arith, t.lots.names.few, length-take t.lots.names.count t.lots.names.items)) s)
