use Rattle.graph.proofs.Marking.{pairs_marked}
use Rattle.graph.proofs.laws.marked_pairs.Goals as goal

pub returns : goal.returns
returns c = pairs_marked
