use Rattle.graph.proofs.Reasons.{reasons_are_tested}
use Rattle.graph.proofs.laws.reasons_are_tested.Goals as goal

pub returns : goal.returns
returns c = reasons_are_tested
