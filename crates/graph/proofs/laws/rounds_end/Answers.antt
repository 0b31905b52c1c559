use Rattle.graph.proofs.Ending.{rounds_end}
use Rattle.graph.proofs.laws.rounds_end.Goals as goal

pub returns : goal.returns
returns c = rounds_end
