use Rattle.graph.proofs.Links.{links_by_picks}
use Rattle.graph.proofs.laws.links_by_picks.Goals as goal

pub returns : goal.returns
returns c = links_by_picks
