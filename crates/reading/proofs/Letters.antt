-- How many bytes that come first are letters.
use Rattle.std.proofs.Common.{◌≡◌, ℕ, ◌+◌, Bool, true, false, cond, List, [], ◌∷◌, length, refl, arith}
use Rattle.std.specs.List.{prefix_len}
use Rattle.reading.specs.Bytes.{lower}
use Rattle.reading.specs.Scan.{run_of}

pub run_is : (bs : List ℕ) → length (run_of bs) ≡ prefix_len lower bs
run_is [] = refl
run_is (b ∷ bs) = go (lower b) (run_is bs)
  where
    go : (t : Bool) → length (run_of bs) ≡ prefix_len lower bs → length (cond t (b ∷ run_of bs) []) ≡ cond t (1 + prefix_len lower bs) 0
    go true e = omega arith
    go false e = refl
