use Rattle.graph.proofs.Links.{links_are_filled}
use Rattle.graph.proofs.laws.links_are_filled.Goals as goal

pub returns : goal.returns
returns c = links_are_filled
