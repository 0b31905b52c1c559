use Rattle.std.proofs.Common.{OnOk, Ok, Err, sym, ap, ◌∙◌, subst}
use Rattle.reading.specs.Reading.{reading}
use Rattle.catalogue.specs.Known.{known, Learned}
use Rattle.catalogue.proofs.Learning.{learned_from}
use Rattle.catalogue.proofs.report.Report.enter.Goals as goal

pub returns-in_ok-text-in-Ok-clause-learned : goal.returns-in_ok-text-in-Ok-clause-learned
returns-in_ok-text-in-Ok-clause-learned c =
    let old = c.args.self.now.names.items in
    let a = reading c.args.line.now in
    let now_known = c.in_ok-learn-in-Ok.ensures ∙ ap (λ x. known x old) c.in-Ok.ensures.exact in
    let l = subst (Learned a old) (sym now_known) (learned_from a old) in
    elim c.format.result as (λ r. OnOk r (Learned a old c.learn.new.names.items)) [ Ok s ↦ l | Err e ↦ tt ]
