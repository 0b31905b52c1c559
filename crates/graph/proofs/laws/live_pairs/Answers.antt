use Rattle.graph.proofs.LivePairs.{live_pairs}
use Rattle.graph.proofs.laws.live_pairs.Goals as goal

pub returns : goal.returns
returns c = live_pairs
