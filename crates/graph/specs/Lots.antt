-- Lots by their numbers, and lists of them (executable). Rests on nothing.
use Rattle.std.specs.Prelude.{◌≡◌, ℕ, ◌≤◌, Bool, true, false, filter, not, ◌&&◌, List, [], ◌∷◌, ◌==◌, nat_le}
use Rattle.std.specs.List.{range_with_len, list_any}

-- where there are n lots, they have the numbers 1 to n
abbrev pub Lot : ℕ → ℕ → Type 0
Lot n x = (1 ≤ x) × (x ≤ n)

-- the same as a test
abbrev pub is_lot : ℕ → ℕ → Bool
is_lot n x = nat_le 1 x && nat_le x n

-- the lots in rising order
abbrev pub lots : ℕ → List ℕ
lots n = range_with_len 1 n

-- some lot passes
abbrev pub some : ℕ → (ℕ → Bool) → Bool
some n p = list_any p (lots n)

-- a lot stands in a list
abbrev pub has : ℕ → List ℕ → Bool
has x xs = list_any (λ v. x == v) xs

-- a list without a lot, the others in their order
abbrev pub without : ℕ → List ℕ → List ℕ
without v xs = filter (λ x. not (v == x)) xs

-- no lot stands twice
abbrev pub Simple : List ℕ → Type 0
Simple [] = Unit {0}
Simple (x ∷ xs) = (has x xs ≡ false) × Simple xs

-- every lot of one list stands in another
abbrev pub Inside : List ℕ → List ℕ → Type 0
Inside xs ys = (z : ℕ) → has z xs ≡ true → has z ys ≡ true
