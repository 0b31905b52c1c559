use Rattle.graph.proofs.Records.{records_say}
use Rattle.graph.proofs.laws.records_say.Goals as goal

pub returns : goal.returns
returns c = records_say
