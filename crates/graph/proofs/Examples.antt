-- Worked examples, by computation.
use Rattle.std.proofs.Common.{refl}
use Rattle.graph.specs.Examples.{Examples}
use Rattle.graph.specs.Joined.{joined}

pub examples : Examples
unfolding joined
examples = record {
  by_place = refl;
  last_place = refl;
  first_round = refl;
  joined = refl;
  parted = refl;
  by_rounds = refl;
  two_rounds = refl;
  triangle = refl;
  ring = refl;
  ring_order = refl;
  star_lowest = refl;
  star_fewest = refl;
  star_order = refl;
  itself = refl;
}
