-- How searchers are shown: their names, and the values that they hold. Rests on nothing.
use Rattle.std.specs.Prelude.{ℕ, Bool, true, false, List, [], ◌∷◌, codes, map}

abbrev pub counter_name : List ℕ
counter_name = codes "counter"

abbrev pub walker_name : List ℕ
walker_name = codes "walker"

-- a value as a digit
abbrev pub digit : Bool → ℕ
digit true = 49
digit false = 48

-- values as a row of digits, or a dash where there are none
abbrev pub digits : List Bool → List ℕ
digits [] = codes "-"
digits (b ∷ bs) = map digit (b ∷ bs)
