use Rattle.graph.proofs.Examples.{examples}
use Rattle.graph.proofs.laws.examples.Goals as goal

pub returns : goal.returns
returns c = examples
