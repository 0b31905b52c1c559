use Rattle.std.proofs.Common.{sym, ◌∙◌, arith}
use Rattle.std.proofs.lemmas.Result.{err_from_is_err_and}
use Rattle.rules.specs.LotNames.{lots_in}
use Rattle.rules.proofs.AddedLots.{adding_stops, adding_goes_on}
use Rattle.rules.proofs.lots.Lots.with.Goals as goal

pub returns-in_err-add : goal.returns-in_err-add
returns-in_err-add c =
    let p = err_from_is_err_and c.from_residual.result c.from_residual.ensures.1 in
    rw (p.1, p.2)
    (sym (adding_stops (lots_in c.loop-named.lots) c.args.names.now c.loop-named.named-index (omega arith) _ c.in_err-add.ensures.answer) ∙ c.loop-named.invariant)

pub loop-named-preserved : goal.loop-named-preserved
loop-named-preserved c =
    adding_goes_on (lots_in c.loop-named.lots) c.args.names.now c.loop-named.named-index (omega arith) (lots_in c.add.new.self)
    c.in_ok-add.ensures.answer c.in_ok-add.ensures.after ∙ c.loop-named.invariant
