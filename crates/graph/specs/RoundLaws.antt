-- What holds of rounds (statements). Rests on Rounds, Growth, Reasons and Ending.
use Rattle.std.specs.Prelude.{◌≡◌, ℕ, suc, Bool, true, List}
use Rattle.formula.specs.Tree.{Tree}
use Rattle.formula.specs.declared.node.Pair.{Pair}
use Rattle.graph.specs.Chains.{Chain}
use Rattle.graph.specs.Ending.{MarkedBy, Ends}
use Rattle.graph.specs.Growth.{Grown, Fewer}
use Rattle.graph.specs.InForce.{of_lots}
use Rattle.graph.specs.Joined.{joined}
use Rattle.graph.specs.Marks.{Marks, idle, dashed}
use Rattle.graph.specs.Pairs.{OfPairs}
use Rattle.graph.specs.Reasons.{Reason}
use Rattle.graph.specs.Rounds.{reason, rounds}

-- The components are exactly the chains of dashed pairs, under any marks.
abbrev pub ComponentsAreChains : Type 0
ComponentsAreChains =
    (n : ℕ) (fs : List (Tree (Pair ℕ))) → of_lots n fs ≡ true → (m : Marks) (x y : ℕ)
    → (joined n (dashed fs m) x y ≡ true → Chain (dashed fs m) y x) × (Chain (dashed fs m) y x → joined n (dashed fs m) x y ≡ true)

-- The test for the reason is exact.
abbrev pub ReasonsAreTested : Type 0
ReasonsAreTested =
    (n : ℕ) (d s : ℕ → ℕ → Bool) → OfPairs n d → OfPairs n s → (sign : Bool) (a b : ℕ)
    → (reason n d s sign a b ≡ true → Reason d s sign a b) × (Reason d s sign a b → reason n d s sign a b ≡ true)

-- after each round all marks are still there, and live, dashed and solid have only shrunk
pub record Shrinks (m m' : Marks) : Type 0 where
  pub grown : Grown m m'
  pub fewer : Fewer m m'

-- So it is from each round to the next.
abbrev pub RoundsShrink : Type 0
RoundsShrink = (n : ℕ) (fs : List (Tree (Pair ℕ))) (k : ℕ) → Shrinks (rounds k n fs) (rounds (suc k) n fs)

-- Every mark had its reason at the round that set it.
abbrev pub MarksHaveReasons : Type 0
MarksHaveReasons =
    (n : ℕ) (fs : List (Tree (Pair ℕ))) → of_lots n fs ≡ true → (k : ℕ) (sign : Bool) (a b : ℕ)
    → idle (rounds k n fs) sign a b ≡ true → MarkedBy n fs k sign a b

-- The rounds end at the first that marks nothing.
abbrev pub RoundsEnd : Type 0
RoundsEnd = (n : ℕ) (fs : List (Tree (Pair ℕ))) → of_lots n fs ≡ true → Ends n fs

-- The marks after any number of rounds are tests of the pairs of the lots.
abbrev pub MarkedPairs : Type 0
MarkedPairs = (n : ℕ) (fs : List (Tree (Pair ℕ))) → of_lots n fs ≡ true → (k : ℕ) (sign : Bool) → OfPairs n (idle (rounds k n fs) sign)
