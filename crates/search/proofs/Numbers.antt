-- Values as a number: the next values are the next number. Rests on specs/States and specs/Meanings.
use Rattle.std.proofs.Common.{◌≡◌, ℕ, zero, suc, ◌+◌, ◌^◌, ◌≤◌, Bool, true, false, List, [], ◌∷◌, length, Some, None, Option, refl, ap, arith, pow-suc}
use Rattle.std.specs.Bool.{beq}
use Rattle.search.specs.States.{last_at, last_of, last_false, cut, filled}
use Rattle.search.specs.Meanings.{number}
use Rattle.search.proofs.Fills.{length_filled}

pub number_falses : (n : ℕ) → number (filled n []) ≡ 0
unfolding number filled
number_falses zero = refl
number_falses (suc n) = omega (arith, number_falses n)

-- what the last false says of the number after this one
abbrev pub Counts : List Bool → Option ℕ → Type 0
Counts bs (Some i) = (length (cut bs i) ≤ length bs) × (number (filled (length bs) (cut bs i)) ≡ number bs + 1)
Counts bs None = number bs + 1 ≡ 2 ^ length bs

counts_step : (b : Bool) (bs : List Bool) (o : Option ℕ) → Counts bs o → Counts (b ∷ bs) (last_at (beq b false) o)
unfolding number filled
counts_step true bs (Some i) (l, c) = (omega arith, omega (arith, c, ap (λ n. 2 ^ n) (length_filled (length bs) (cut bs i) l)))
counts_step false bs (Some i) (l, c) = (omega arith, omega (arith, c))
counts_step true bs None c = omega (arith, c, pow-suc 2 (length bs))
counts_step false bs None c =
    (omega arith, omega (arith, c, number_falses (length bs), ap (λ n. 2 ^ n) (length_filled (length bs) [] (omega arith))))

pub counts : (bs : List Bool) → Counts bs (last_false bs)
unfolding last_of number
counts [] = refl
counts (b ∷ bs) = counts_step b bs (last_false bs) (counts bs)
