use Rattle.std.proofs.Common.{◌≡◌, ◌<◌, ◌≤◌, ◌-◌, ◌⊎◌, false, length, sym, ◌∙◌, arith}
use Rattle.std.proofs.lemmas.Grind.{common_steps}
use Rattle.std.proofs.lemmas.List.{get_or-take}
use Rattle.graph.specs.Standings.{flags_in}
use Rattle.graph.proofs.Flags.{flag_of, no_lot}
use Rattle.graph.proofs.standing.Standing.stands.Goals as goal

pub returns-then-contains : goal.returns-then-contains
returns-then-contains c =
    let s = c.args.self.now in
    let low : 1 ≤ c.args.lot = grind (arith, common_steps) in
    let high : c.args.lot ≤ s.lots = grind (arith, common_steps) in
    sym (flag_of (flags_in s) c.args.lot low ∙ get_or-take s.lots s.flags (c.args.lot - 1) false (omega arith))

pub returns-else-contains : goal.returns-else-contains
returns-else-contains c =
    let s = c.args.self.now in
    let out : (c.args.lot ≡ 0) ⊎ (length (flags_in s) < c.args.lot) = grind (arith, common_steps) in
    c.if-contains.false ∙ sym (no_lot (flags_in s) c.args.lot out)
