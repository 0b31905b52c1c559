use Rattle.graph.proofs.Numbering.{pairs_are_numbered}
use Rattle.graph.proofs.laws.pairs_are_numbered.Goals as goal

pub returns : goal.returns
returns c = pairs_are_numbered
