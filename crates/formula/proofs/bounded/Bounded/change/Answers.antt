use Rattle.std.proofs.Common.{◌<◌, length, sym, refl, ◌∙◌, arith}
use Rattle.std.proofs.lemmas.List.{get_or-take, get_or_default, length-take}
use Rattle.std.proofs.Math.Seq.{take-set-lt}
use Rattle.formula.proofs.bounded.Bounded.change.Goals as goal

pub returns : goal.returns
returns g c =
    let b = c.args.self.now in
    let inside : c.args.at < b.count = omega (arith, length-take b.count b.items) in
    let room : c.args.at < length b.items = omega (arith, length-take b.count b.items) in
    let new = c.change.new.arg2 in
    let lent = get_or_default b.items c.args.at _ new room ∙ sym (get_or-take b.count b.items c.args.at new inside) in
    (new, record { shown = _; shows = lent; left = _; met = c.change.ensures; leaves = refl }, (take-set-lt b.count b.items c.args.at new inside, refl, refl))
