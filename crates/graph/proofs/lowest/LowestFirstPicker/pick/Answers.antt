use Rattle.std.proofs.Common.{rules, tests, ◌≡◌, ◌+◌, position, ap, ◌∙◌}
use Rattle.std.specs.Option.{option_map_or}
use Rattle.std.proofs.lemmas.Iterator.{YieldsList-from_slice}
use Rattle.std.proofs.lemmas.Iterator.Search.{position_from_yields_List}
use Rattle.graph.specs.Standings.{linked_in, flags_in}
use Rattle.graph.proofs.Surveying.{first_standing}
use Rattle.graph.proofs.lowest.LowestFirstPicker.pick.Goals as goal

pub returns : goal.returns
returns c =
    let bs = flags_in c.args.standing.now in
    let found : c.position-first.result ≡ position (λ b. b) bs = position_from_yields_List (λ b. b) _ _ _ c.position-first.ensures.ran (YieldsList-from_slice bs (search rules)) (λ x b q k. search (rules, tests)) in
    let up : c.map_or.result ≡ option_map_or (λ i. i + 1) c.position-first.result 0 = search (rules, tests) in
    up ∙ ap (λ o. option_map_or (λ i. i + 1) o 0) found ∙ first_standing bs (linked_in c.args.standing.now c.args.links.now)
