use Rattle.graph.proofs.Places.{pairs_have_places}
use Rattle.graph.proofs.laws.pairs_have_places.Goals as goal

pub returns : goal.returns
returns c = pairs_have_places
