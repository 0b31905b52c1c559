use Rattle.graph.proofs.Marking.{rounds_shrink}
use Rattle.graph.proofs.laws.rounds_shrink.Goals as goal

pub returns : goal.returns
returns c = rounds_shrink
