-- Pairs of lots, their places, and tests of two lots (executable). Rests on Lots.
use Rattle.std.specs.Prelude.{◌≡◌, ℕ, zero, suc, ◌+◌, ◌-◌, ◌*◌, ◌/◌, ◌<◌, ◌≤◌, Bool, true, false, ◌&&◌, ◌||◌, List, [], ◌++◌, map, ◌==◌}
use Rattle.std.specs.List.{range_with_len}
use Rattle.graph.specs.Lots.{Lot}

-- a pair is two lots, the lower first
abbrev pub IsPair : ℕ → ℕ → ℕ → Type 0
IsPair n a b = (1 ≤ a) × (a < b) × (b ≤ n)

-- the place of the pair of a and b, a below b
abbrev pub place : ℕ → ℕ → ℕ
place a b = (b - 1) * (b - 2) / 2 + (a - 1)

-- how many pairs n lots have
abbrev pub count_of_pairs : ℕ → ℕ
count_of_pairs n = n * (n - 1) / 2

-- the pairs whose higher lot is the one after k, by their lower lot
abbrev pub pairs_up_to : ℕ → List (ℕ × ℕ)
pairs_up_to k = map (λ a. (a, suc k)) (range_with_len 1 k)

-- all pairs of n lots, by their higher lot, then by their lower lot
abbrev pub pairs : ℕ → List (ℕ × ℕ)
pairs zero = []
pairs (suc k) = pairs k ++ pairs_up_to k

-- the pair of c and d is the pair of a and b, in either order
abbrev pub same_pair : ℕ → ℕ → ℕ → ℕ → Bool
same_pair c d a b = (c == a && d == b) || (c == b && d == a)

-- a test of two lots says the same in either order
abbrev pub Symmetric : (ℕ → ℕ → Bool) → Type 0
Symmetric e = (x y : ℕ) → e x y ≡ e y x

-- A test of the pairs of n lots: it says the same in either order, and is false but for two different lots.
pub record OfPairs (n : ℕ) (e : ℕ → ℕ → Bool) : Type 0 where
  pub turns : Symmetric e
  pub own : (x : ℕ) → e x x ≡ false
  pub lots : (x y : ℕ) → e x y ≡ true → Lot n x × Lot n y
