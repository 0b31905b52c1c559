-- The standing lots, held as a flag for each lot (executable). Rests on nothing.
use Rattle.std.specs.Prelude.{ℕ, ◌+◌, Bool, cond, List, [], ◌∷◌}

-- the lots whose flags are set, where the first flag is that of lot k
abbrev pub flagged_from : ℕ → List Bool → List ℕ
flagged_from k [] = []
flagged_from k (b ∷ bs) = cond b (k ∷ flagged_from (k + 1) bs) (flagged_from (k + 1) bs)

-- the lots whose flags are set, in rising order
abbrev pub standing_in : List Bool → List ℕ
standing_in bs = flagged_from 1 bs
