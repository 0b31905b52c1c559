use Rattle.std.proofs.Common.{rules, tests, ◌∙◌, ℕ, Bool}
use Rattle.std.proofs.lemmas.Iterator.Consumers.{YieldsList-from_filter, YieldsList-at, count_from_yields_List}
use Rattle.std.proofs.lemmas.List.Sums.{length-filter}
use Rattle.graph.specs.Standings.{linked_in, flags_in, standing_lots}
use Rattle.graph.proofs.Surveying.{standing_from}
use Rattle.graph.proofs.fewest.View.degree.Goals as goal

pub returns : goal.returns
returns c =
    let s = c.args.self.now.standing.now in
    let near : ℕ → Bool = linked_in s c.args.self.now.links.now c.args.lot in
    count_from_yields_List _ _ c.count.ensures.ran (YieldsList-from_filter _ near (YieldsList-at c.filter-2.ensures.source
    (standing_from _ (flags_in s) (search rules) (search rules) (search rules) c.filter.ensures.closure (λ x b q k. search (rules, tests))))
    c.filter-2.ensures.closure (λ x b q k. search (rules, tests)))
    ∙ length-filter near (standing_lots s)
