use Rattle.std.proofs.Common.{length}
use Rattle.grammar.proofs.Climbs.{Climbing}
use Rattle.grammar.proofs.climb.+climb.Given as goal

abbrev pub decreases-climb : goal.decreases-climb
decreases-climb l = length l.tokens.now

-- a phrase has been read, which the next word may still take for its left side
abbrev pub invariant-loop-op : goal.invariant-loop-op
invariant-loop-op l = Climbing l.least l.tokens l.rest l.node l.fn.out l.out

abbrev pub decreases-loop-op : goal.decreases-loop-op
decreases-loop-op l = length l.rest
