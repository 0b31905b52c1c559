use Rattle.graph.proofs.Paths.{chains_have_paths}
use Rattle.graph.proofs.laws.chains_have_paths.Goals as goal

pub returns : goal.returns
returns c = chains_have_paths
