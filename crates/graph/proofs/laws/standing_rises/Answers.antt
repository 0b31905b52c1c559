use Rattle.graph.proofs.Links.{standing_rises}
use Rattle.graph.proofs.laws.standing_rises.Goals as goal

pub returns : goal.returns
returns c = standing_rises
