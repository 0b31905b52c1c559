use Rattle.graph.proofs.Marking.{components_are_chains}
use Rattle.graph.proofs.Reaching.{joined_is_chained}
use Rattle.graph.proofs.laws.joined_is_chained.Goals as goal

pub returns : goal.returns
returns c = record { any = joined_is_chained; dashed = components_are_chains }
