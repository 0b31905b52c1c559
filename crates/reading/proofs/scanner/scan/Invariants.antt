use Rattle.std.proofs.Common.{◌-◌, length}
use Rattle.formula.specs.Held.{held}
use Rattle.reading.proofs.Steps.{Scanning}
use Rattle.reading.proofs.scanner.scan.Given as goal

abbrev pub invariant-loop-at : goal.invariant-loop-at
invariant-loop-at l = Scanning l.line l.at l.joined l.state (held l.tokens)

abbrev pub decreases-loop-at : goal.decreases-loop-at
decreases-loop-at l = length l.line - l.at
