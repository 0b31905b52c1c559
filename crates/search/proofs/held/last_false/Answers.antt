use Rattle.std.proofs.Common.{rules}
use Rattle.search.proofs.Lasts.{last_from}
use Rattle.search.proofs.held.last_false.Goals as goal

pub returns-clause-value : goal.returns-clause-value
returns-clause-value c =
    let read = c.rposition.ensures.runs.0.reads in
    last_from c.args.values.now c.rposition.result (λ e k l. search rules) (λ i e. (search rules, search rules, λ k l m. search rules))
