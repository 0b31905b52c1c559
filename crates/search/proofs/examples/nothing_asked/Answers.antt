use Rattle.clauses.specs.Falsity.{false_code, first_below, first_false_row}
use Rattle.search.specs.States.{last_of, filled, stepped, iterated}
use Rattle.search.specs.Counting.{counter_move}
use Rattle.search.specs.Walking.{prefix_of, walker_move}
use Rattle.search.proofs.examples.nothing_asked.Goals as goal

pub returns : goal.returns
unfolding false_code first_below first_false_row last_of filled stepped iterated counter_move prefix_of walker_move
returns c = record { counted = c.both.ensures.counted; walked = c.both.ensures.walked }
