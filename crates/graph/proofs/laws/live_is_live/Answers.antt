use Rattle.graph.proofs.LiveNodes.{live_is_live}
use Rattle.graph.proofs.laws.live_is_live.Goals as goal

pub returns : goal.returns
returns c = live_is_live
