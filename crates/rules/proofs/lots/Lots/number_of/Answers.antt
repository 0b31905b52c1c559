use Rattle.std.proofs.Common.{sym}
use Rattle.rules.specs.LotNames.{lots_in}
use Rattle.rules.proofs.LotNumbers.{number_found, number_none}
use Rattle.rules.proofs.lots.Lots.number_of.Goals as goal

pub returns-in_err-at : goal.returns-in_err-at
returns-in_err-at c = rw c.from_residual.ensures (sym (number_none c.args.name.now (lots_in c.args.self.now) (sym c.in_err-at.ensures)))

pub returns : goal.returns
returns c = sym (number_found c.args.name.now (lots_in c.args.self.now) c.in_ok-at.at (sym c.in_ok-at.ensures))
