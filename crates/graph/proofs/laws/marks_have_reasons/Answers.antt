use Rattle.graph.proofs.Marking.{marks_have_reasons}
use Rattle.graph.proofs.laws.marks_have_reasons.Goals as goal

pub returns : goal.returns
returns c = marks_have_reasons
