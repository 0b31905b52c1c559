-- Numbers in base ten with spaces between, and that they are read back. Rests on Reading.
use Rattle.std.specs.Prelude.{◌≡◌, ℕ, ◌≤◌, List, [], ◌∷◌, ◌++◌, Some}
use Rattle.std.specs.List.{AllByRecursion}
use Rattle.std.specs.Fmt.{decimal}
use Rattle.search_demo.specs.Reading.{most, numbers_of}

-- numbers in base ten, with one space between
abbrev pub written : List ℕ → List ℕ
written [] = []
written (n ∷ []) = decimal n
written (n ∷ m ∷ ms) = decimal n ++ 32 ∷ written (m ∷ ms)

-- A line on which numbers that are not too large are written so says just these numbers.
abbrev pub ReadBack : Type 0
ReadBack = (ns : List ℕ) → AllByRecursion (λ n. n ≤ most) ns → numbers_of (written ns) ≡ Some ns
