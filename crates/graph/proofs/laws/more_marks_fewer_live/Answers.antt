use Rattle.graph.proofs.Grown.{more_marks_fewer_live}
use Rattle.graph.proofs.laws.more_marks_fewer_live.Goals as goal

pub returns : goal.returns
returns c = more_marks_fewer_live
