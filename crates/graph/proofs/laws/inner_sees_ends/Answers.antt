use Rattle.graph.proofs.Sights.{inner_sees_ends}
use Rattle.graph.proofs.laws.inner_sees_ends.Goals as goal

pub returns : goal.returns
returns c = inner_sees_ends
