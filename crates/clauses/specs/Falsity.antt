-- The test for codes and clauses that are false under values of the first variables, and the first such clause. Rests on nothing.
use Rattle.std.specs.Prelude.{ℕ, zero, suc, ◌+◌, ◌-◌, ◌*◌, ◌/◌, ◌%◌, Bool, false, cond, not, ◌&&◌, ◌||◌, List, length, Some, None, Option, ◌==◌, nat_le, nat_lt, slice_index, slice_index_or}

-- an even code asks that its variable is true, an odd one that it is false
abbrev pub says : ℕ → Bool → Bool
says code value = cond (code % 2 == 0) value (not value)

-- of no variable from 1 to `top`, or of one whose value says otherwise
unfoldable pub false_code : ℕ → List Bool → ℕ → Bool
false_code top values code =
    (code / 2 == 0 || nat_lt top (code / 2)) || (nat_le (code / 2) (length values) && not (says code (slice_index_or values (code / 2 - 1) false)))

abbrev pub false_clause : ℕ → List Bool → List ℕ → ℕ → Bool
false_clause top values codes row =
    false_code top values (slice_index codes (3 * row))
    && (false_code top values (slice_index codes (3 * row + 1)) && false_code top values (slice_index codes (3 * row + 2)))

-- the least number below n that passes the test, told from the least below n - 1
abbrev pub or_this : Option ℕ → Bool → ℕ → Option ℕ
or_this (Some i) passes n = Some i
or_this None passes n = cond passes (Some n) None

unfoldable pub first_below : (ℕ → Bool) → ℕ → Option ℕ
first_below f zero = None
first_below f (suc n) = or_this (first_below f n) (f n) n

unfoldable pub first_false_row : ℕ → List Bool → List ℕ → Option ℕ
first_false_row top values codes = first_below (false_clause top values codes) (length codes / 3)
