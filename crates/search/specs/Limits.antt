-- The limits that every searcher keeps. Rests on nothing.
use Rattle.std.specs.Prelude.{ℕ, min}

abbrev pub max_variables : ℕ
max_variables = 756

abbrev pub age_limit : ℕ
age_limit = 4294967295

-- more variables than the most are taken as the most
abbrev pub capped : ℕ → ℕ
capped variables = min variables max_variables
