use Rattle.std.proofs.Common.{refl}
use Rattle.reading.specs.Scan.{decoded, scan_from}
use Rattle.rules.proofs.examples.worked_examples.Goals as goal

pub returns : goal.returns
unfolding decoded scan_from
returns c = record {
  names = refl;
  forces = refl;
  strike = refl;
  left = refl;
  zeroth = refl;
  fourth = refl;
  twice = refl;
  first_name = refl;
  second_name = refl;
  known_names = refl;
  one_fits = refl;
  none_kept = refl;
  one_more = refl;
  kept = refl;
  broken = refl;
  too_few = refl;
  no_rule = refl;
}
