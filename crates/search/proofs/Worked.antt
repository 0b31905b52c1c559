-- The worked examples, by computation. Rests on specs/Examples.
use Rattle.std.proofs.Common.{refl}
use Rattle.clauses.specs.Falsity.{false_code, first_below, first_false_row}
use Rattle.search.specs.States.{last_of, filled, stepped, iterated}
use Rattle.search.specs.Counting.{counter_move}
use Rattle.search.specs.Walking.{prefix_of, walker_move}
use Rattle.search.specs.Examples.{WorkedExamples}

pub worked : WorkedExamples
unfolding false_code first_below first_false_row last_of filled stepped iterated counter_move prefix_of walker_move
worked = record {
  triangle_counted = refl;
  triangle_walked = refl;
  triangle_spent = refl;
  either_counted = refl;
  either_walked = refl;
  either_counted_values = refl;
  either_walked_values = refl;
  nothing_counted = refl;
  nothing_walked = refl;
  nothing_counted_spent = refl;
  nothing_walked_spent = refl;
  empty_counted = refl;
  empty_walked = refl;
}
