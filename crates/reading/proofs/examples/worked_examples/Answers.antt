use Rattle.std.proofs.Common.{refl}
use Rattle.reading.specs.Scan.{decoded, scan_from}
use Rattle.reading.proofs.examples.worked_examples.Goals as goal

pub returns : goal.returns
unfolding decoded scan_from
returns c = record {
  refused_1 = refl;
  refused_2 = refl;
  refused_3 = refl;
  refused_4 = refl;
  refused_5 = refl;
  refused_6 = refl;
  refused_7 = refl;
  refused_8 = refl;
  refused_9 = refl;
  refused_10 = refl;
  refused_11 = refl;
  refused_12 = refl;
  refused_13 = refl;
  refused_14 = refl;
  refused_15 = refl;
  refused_16 = refl;
  refused_17 = refl;
  refused_18 = refl;
  refused_19 = refl;
  refused_20 = refl;
  refused_21 = refl;
  refused_22 = refl;
  refused_empty = refl;
  refused_return = refl;
  refused_spaces = refl;
  refused_long = refl;
  refused_many = refl;
  taken_1 = refl;
  taken_2 = refl;
  taken_3 = refl;
  taken_4 = refl;
  taken_5 = refl;
  taken_6 = refl;
  taken_7 = refl;
  taken_8 = refl;
  taken_9 = refl;
  taken_10 = refl;
  taken_11 = refl;
  taken_deep = refl;
  numbered_wrong = refl;
  numbered_long = refl;
  numbered_name = refl;
  numbered_early = refl;
  numbered_many = refl;
  numbered_more = refl;
  late_wrong = refl;
  late_name = refl;
  late_early = refl;
}
