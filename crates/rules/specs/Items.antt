-- Items of a list by their numbers. Rests on nothing.
use Rattle.std.specs.Prelude.{ℕ, zero, suc, List, [], ◌∷◌, None, Option}
use Rattle.std.specs.List.{slice_get}

-- the item with a number, from 1
abbrev pub item : {A : Type 0} → ℕ → List A → Option A
item zero xs = None
item (suc i) xs = slice_get xs i

-- the list with the item at an index, from 0, changed, and every other as it was
abbrev pub altered : {A : Type 0} → (A → A) → ℕ → List A → List A
altered f i [] = []
altered f zero (x ∷ xs) = f x ∷ xs
altered f (suc i) (x ∷ xs) = x ∷ altered f i xs

-- the same, by the item's number, from 1; a number that no item has changes nothing
abbrev pub altered_item : {A : Type 0} → (A → A) → ℕ → List A → List A
altered_item f zero xs = xs
altered_item f (suc i) xs = altered f i xs
