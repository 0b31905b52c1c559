use Rattle.std.proofs.Common.{◌≡◌, drop}
use Rattle.rules.specs.Adding.{lots_added}
use Rattle.rules.specs.LotNames.{lots_in}
use Rattle.rules.proofs.lots.Lots.with.Given as goal

abbrev pub invariant-loop-named : goal.invariant-loop-named
invariant-loop-named l = lots_added (lots_in l.lots) (drop l.named-index l.names) ≡ lots_added (lots_in l.self) l.names
