use Rattle.graph.proofs.Picking.{pickers_pick}
use Rattle.graph.proofs.laws.pickers_pick.Goals as goal

pub returns : goal.returns
returns c = pickers_pick
