use Rattle.std.proofs.Common.{sym, ap, ◌∙◌}
use Rattle.rules.specs.LotNames.{lots_in}
use Rattle.rules.specs.Numbers.{apart}
use Rattle.rules.proofs.ApartLots.{apart_push}
use Rattle.rules.proofs.LotNumbers.{not_found}
use Rattle.rules.proofs.lots.Lots.add.Goals as goal

pub invariant_of-self : goal.invariant_of-self
invariant_of-self c =
    let ls = lots_in c.args.self.now in
    let n = c.args.named.name in
    record { once = ap apart c.push.ensures.more ∙ apart_push n ls c.args.self.now.once (not_found n ls c.number_of.result c.number_of.ensures (sym c.is_some.ensures ∙ c.if-is_some.false)) }
