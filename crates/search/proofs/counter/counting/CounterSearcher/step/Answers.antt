use Rattle.std.proofs.Common.{rules, sym, inl, inr, arith}
use Rattle.search.specs.Held.{counter_state}
use Rattle.search.specs.Meanings.{counter_reserve}
use Rattle.search.specs.Counting.{counter_move}
use Rattle.search.proofs.Steps.{moving, resting, ended}
use Rattle.search.proofs.Counts.{counter_steady}
use Rattle.search.proofs.counter.counting.CounterSearcher.step.Goals as goal
use Rattle.search.proofs.counter.counting.CounterSearcher.step.Goals.{in-Some, in-None}

pub returns-then-age : goal.returns-then-age
returns-then-age c = resting counter_state counter_reserve counter_move c.args.codes.now c.args.self.now (inr (omega arith))

pub returns-in-Found : goal.returns-in-Found
returns-in-Found c = resting counter_state counter_reserve counter_move c.args.codes.now c.args.self.now (inl (ended (search rules)))

pub returns : goal.returns
unfolding counter_move
returns c =
    let s = c.args.self.now in
    let working = sym c.in-Working.ensures in
    moving counter_state counter_reserve counter_move _ s _ working (omega arith) (counter_steady (counter_state s) c.args.codes.now s.whole working)
    (elim c.match-first_false.branch [ in-Some w ↦ search rules | in-None w ↦ search rules ])
