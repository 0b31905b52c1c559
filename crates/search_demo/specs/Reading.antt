-- The numbers of a line. Rests on nothing.
use Rattle.std.specs.Prelude.{ℕ, ◌+◌, ◌-◌, ◌*◌, Bool, cond, ◌&&◌, List, [], ◌∷◌, ◌++◌, Some, None, Option, ◌==◌, nat_le}

-- the largest number that a line may hold
abbrev pub most : ℕ
most = 65535

abbrev pub is_digit : ℕ → Bool
is_digit b = nat_le 48 b && nat_le b 57

-- a number whose digits may go on, with the value of one more digit
abbrev pub begun : Option ℕ → ℕ
begun (Some n) = n
begun None = 0

abbrev pub grown : Option ℕ → ℕ → ℕ
grown number digit = 10 * begun number + (digit - 48)

abbrev pub ended : List ℕ → Option ℕ → List ℕ
ended numbers (Some n) = numbers ++ n ∷ []
ended numbers None = numbers

-- the numbers of a line, with spaces (byte 32) around them; nothing if another byte stands there or a number is too large
unfoldable pub read_on : List ℕ → Option ℕ → List ℕ → Option (List ℕ)
read_on numbers number [] = Some (ended numbers number)
read_on numbers number (b ∷ bs) =
    cond (b == 32) (read_on (ended numbers number) None bs)
    (cond (is_digit b && nat_le (grown number b) most) (read_on numbers (Some (grown number b)) bs) None)

abbrev pub numbers_of : List ℕ → Option (List ℕ)
numbers_of line = read_on [] None line
