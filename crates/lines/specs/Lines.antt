-- Where a line ends, and the lines of an input. Rests on nothing.
use Rattle.std.specs.Prelude.{ℕ, cond, List, [], ◌∷◌, ◌==◌}
use Rattle.std.specs.List.{position_or_len}

-- how many bytes stand before the first byte 10
abbrev pub length_of_line : List ℕ → ℕ
length_of_line bytes = position_or_len (λ b. b == 10) bytes

-- a byte other than 10 before some lines: it begins the first of them, or is a line where there is none
abbrev pub begun : ℕ → List (List ℕ) → List (List ℕ)
begun b [] = (b ∷ []) ∷ []
begun b (l ∷ ls) = (b ∷ l) ∷ ls

-- the lines of an input, each without its byte 10
abbrev pub lines_of : List ℕ → List (List ℕ)
lines_of [] = []
lines_of (b ∷ bs) = cond (b == 10) ([] ∷ lines_of bs) (begun b (lines_of bs))
