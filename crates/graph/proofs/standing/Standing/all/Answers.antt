use Rattle.std.proofs.Common.{true, length, ap, ◌∙◌}
use Rattle.std.proofs.lemmas.List.{length-replicate, take-replicate}
use Rattle.graph.specs.Standing.{standing_in}
use Rattle.graph.proofs.Flags.{flags_stand}
use Rattle.graph.proofs.standing.Standing.all.Goals as goal

pub returns : goal.returns
returns c =
    let e = take-replicate c.args.lots 24 true c.requires in
    record { value = ap standing_in e ∙ flags_stand.all c.args.lots; count = ap length e ∙ length-replicate c.args.lots true }
