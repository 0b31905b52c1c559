-- Which pairs fire together when every lot fires alone, or when all do. Rests on nothing.
use Rattle.std.specs.Prelude.{ℕ, Bool, true, false, ◌||◌, List, codes, ◌==◌}
use Rattle.formula.specs.declared.node.Pair.{Pair}

-- all pairs do, or only a lot with itself
abbrev pub fires : Bool → Pair ℕ → Bool
fires all p = all || p.first == p.second

-- a truth as it is printed
abbrev pub spoken : Bool → List ℕ
spoken true = codes "yes"
spoken false = codes "no"
