use Rattle.std.proofs.Common.{◌≡◌, ◌-◌, ◌*◌, ◌/◌, ap, arith}
use Rattle.graph.proofs.Places.{places}
use Rattle.graph.proofs.pair.place.Goals as goal

pub returns-clause-within : goal.returns-clause-within
returns-clause-within c =
    let e : c.args.higher - 1 - 1 ≡ c.args.higher - 2 = omega arith in
    omega (arith, (places 24).below c.args.lower c.args.higher c.requires, ap (λ m. (c.args.higher - 1) * m / 2) e)
