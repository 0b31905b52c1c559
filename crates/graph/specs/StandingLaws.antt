-- What holds of flags for the standing lots (statements). Rests on Standing.
use Rattle.std.specs.Prelude.{◌≡◌, ℕ, ◌+◌, Bool, true, false, List, replicate, slice_index_or, slice_set}
use Rattle.graph.specs.Lots.{lots, has, without}
use Rattle.graph.specs.Standing.{standing_in}

-- With all flags set all lots stand; a lot stands when its flag is set; taking its flag away takes it out and leaves the others.
pub record FlagsStand : Type 0 where
  pub all : (n : ℕ) → standing_in (replicate n true) ≡ lots n
  pub stands : (bs : List Bool) (i : ℕ) → has (1 + i) (standing_in bs) ≡ slice_index_or bs i false
  pub out : (bs : List Bool) (i : ℕ) → standing_in (slice_set bs i false) ≡ without (1 + i) (standing_in bs)
