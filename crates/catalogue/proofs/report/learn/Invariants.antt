use Rattle.std.proofs.Common.{◌≡◌, drop}
use Rattle.catalogue.specs.Known.{learned}
use Rattle.catalogue.proofs.report.learn.Given as goal

abbrev pub invariant-loop-named : goal.invariant-loop-named
invariant-loop-named l = learned l.names.items (drop l.named-index l.named-items) ≡ learned l.initial.names.items l.named-items
