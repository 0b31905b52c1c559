-- The two pickers (executable). Rests on Filling.
use Rattle.std.specs.Prelude.{ℕ, Bool, List, [], ◌∷◌, nat_lt, count_by}
use Rattle.std.specs.List.{best_of}
use Rattle.graph.specs.Filling.{Pick}

-- lowest number: the first of the standing lots, which come in rising order
abbrev pub lowest_first : Pick
lowest_first [] e = 0
lowest_first (x ∷ rest) e = x

-- how many lots of a list are neighbours of v
abbrev pub degree : (ℕ → ℕ → Bool) → ℕ → List ℕ → ℕ
degree e v xs = count_by (λ x. e v x) xs

-- the best of a lot and those of a list by a figure d: the first that none has a lower figure than
abbrev pub fewest : (ℕ → ℕ) → ℕ → List ℕ → ℕ
fewest d best xs = best_of (λ x y. nat_lt (d x) (d y)) best xs

-- fewest standing neighbours, then lowest number
abbrev pub fewest_first : Pick
fewest_first [] e = 0
fewest_first (x ∷ rest) e = fewest (λ v. degree e v (x ∷ rest)) x rest
