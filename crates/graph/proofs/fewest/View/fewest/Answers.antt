use Rattle.std.proofs.Common.{rules, tests, ◌∙◌, ℕ, Bool, ap}
use Rattle.std.specs.Option.{unwrap_or}
use Rattle.graph.specs.Pickers.{degree}
use Rattle.graph.specs.Standings.{linked_in, flags_in, standing_lots}
use Rattle.graph.proofs.Surveying.{standing_from, chosen_all, fewest_by_key}
use Rattle.graph.proofs.fewest.View.fewest.Goals as goal

pub returns : goal.returns
returns c =
    let s = c.args.self.now.standing.now in
    let e : ℕ → ℕ → Bool = linked_in s c.args.self.now.links.now in
    ap (λ o. unwrap_or o 0) (fewest_by_key _ (λ v. degree e v (standing_lots s)) (λ x k q h. search (rules, tests)) _ c.min_by_key.ensures.ran
    (standing_from _ (flags_in s) (search rules) (search rules) (search rules) c.filter.ensures.closure (λ x b q k. search (rules, tests))))
    ∙ chosen_all e (standing_lots s)
