use Rattle.graph.proofs.Saving.{marks_are_safe}
use Rattle.graph.proofs.laws.marks_are_safe.Goals as goal

pub returns : goal.returns
returns c = marks_are_safe
