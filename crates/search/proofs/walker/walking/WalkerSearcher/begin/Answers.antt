use Rattle.std.proofs.Common.{◌≡◌, [], min, ap, ◌∙◌, arith}
use Rattle.search.specs.States.{fresh}
use Rattle.search.proofs.Walks.{walker_begun}
use Rattle.search.proofs.walker.walking.WalkerSearcher.begin.Goals as goal

pub returns-clause-begun : goal.returns-clause-begun
returns-clause-begun c = walker_begun _ _ (c.begin.ensures ∙ ap (λ v. fresh v []) (omega arith))
