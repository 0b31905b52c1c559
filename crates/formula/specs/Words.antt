-- How many words join two parts in a formula. Rests on Tree.
use Rattle.std.specs.Prelude.{ℕ, suc, ◌+◌}
use Rattle.formula.specs.Tree.{Tree, leaf, not, and, or, then}

-- each `and`, `or` and `then` counts one
abbrev pub words : {A : Type 0} → Tree A → ℕ
words (leaf a) = 0
words (not p t) = words t
words (and p t u) = suc (words t + words u)
words (or p t u) = suc (words t + words u)
words (then p t u) = suc (words t + words u)
