use Rattle.std.proofs.Common.{rules}
use Rattle.search.proofs.Counts.{counter_begun}
use Rattle.search.proofs.counter.counting.CounterSearcher.begin.Goals as goal

pub returns-clause-begun : goal.returns-clause-begun
returns-clause-begun c = counter_begun _ _ (search rules)
