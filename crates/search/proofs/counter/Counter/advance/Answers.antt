use Rattle.std.proofs.Common.{rules}
use Rattle.search.proofs.Fills.{length_counted}
use Rattle.search.proofs.Lasts.{last_within}
use Rattle.search.proofs.counter.Counter.advance.Goals as goal

pub invariant_of-self-else-not-count_up : goal.invariant_of-self-else-not-count_up
invariant_of-self-else-not-count_up c =
    let bs = c.args.self.now.held.values in
    record { whole = search (rules, length_counted bs _ (last_within bs)) }
