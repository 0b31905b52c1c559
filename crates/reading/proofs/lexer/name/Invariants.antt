use Rattle.std.proofs.Common.{length}
use Rattle.reading.proofs.Naming.{Naming}
use Rattle.reading.proofs.lexer.name.Given as goal

abbrev pub invariant-loop-b : goal.invariant-loop-b
invariant-loop-b l = Naming l.first l.text l.rest l.bytes l.decoded

abbrev pub decreases-loop-b : goal.decreases-loop-b
decreases-loop-b l = length l.rest
