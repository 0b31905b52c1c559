use Rattle.graph.proofs.Flags.{flags_stand}
use Rattle.graph.proofs.laws.flags_stand.Goals as goal

pub returns : goal.returns
returns c = flags_stand
