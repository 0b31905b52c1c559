use Rattle.std.proofs.Common.{◌≡◌, ◌+◌, ◌-◌, false, length, sym, ap, ◌∙◌, arith, length-set}
use Rattle.std.proofs.lemmas.List.{length-take}
use Rattle.graph.specs.Lots.{without}
use Rattle.graph.specs.Standing.{standing_in}
use Rattle.graph.specs.Standings.{flags_in, standing_lots}
use Rattle.std.proofs.Math.Seq.{take-set-lt}
use Rattle.graph.proofs.Flags.{flags_stand, stands_within}
use Rattle.graph.proofs.Members.{without_none}
use Rattle.graph.proofs.standing.Standing.take_out.Goals as goal

pub overflow_sub-self : goal.overflow_sub-self
overflow_sub-self c = (stands_within (flags_in c.args.self.now) c.args.lot (sym c.if-stands.ensures)).0

pub bounds-self-lot : goal.bounds-self-lot
bounds-self-lot c =
    let s = c.args.self.now in
    omega (arith, s.few, length-take s.lots s.flags, stands_within (flags_in s) c.args.lot (sym c.if-stands.ensures))

pub returns-then-stands : goal.returns-then-stands
returns-then-stands c =
    let s = c.args.self.now in
    let lot = c.args.lot in
    let w = stands_within (flags_in s) lot (sym c.if-stands.ensures) in
    let one_up : 1 + (lot - 1) ≡ lot = omega arith in
    let e = take-set-lt s.lots s.flags (lot - 1) false (omega (arith, length-take s.lots s.flags)) in
    record {
      after = ap standing_in e ∙ flags_stand.out (flags_in s) (lot - 1) ∙ ap (λ x. without x (standing_lots s)) one_up;
      count = ap length e ∙ length-set (flags_in s) (lot - 1) false;
    }

pub returns-else-stands-clause-after : goal.returns-else-stands-clause-after
returns-else-stands-clause-after c = grind (arith, without_none c.args.lot (standing_lots c.args.self.now))
