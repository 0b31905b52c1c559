-- What holds of the places of pairs (statements). Rests on Pairs.
use Rattle.std.specs.Prelude.{◌≡◌, ℕ, ◌<◌, ◌≤◌, length, slice_index_or}
use Rattle.graph.specs.Pairs.{IsPair, place, count_of_pairs, pairs}

-- The places of the pairs of n lots are exactly the numbers below n(n - 1)/2: each pair has one of them, different pairs have different places, and
-- every such number is the place of a pair. They go by the higher lot, then by the lower, and the list of pairs holds each pair at its place.
pub record Places (n : ℕ) : Type 0 where
  pub below : (a b : ℕ) → IsPair n a b → place a b < count_of_pairs n
  pub apart : (a b c d : ℕ) → IsPair n a b → IsPair n c d → place a b ≡ place c d → (a ≡ c) × (b ≡ d)
  pub every : (i : ℕ) → i < count_of_pairs n → (a b : ℕ) × IsPair n a b × (place a b ≡ i)
  pub by_higher : (a b c d : ℕ) → IsPair n a b → IsPair n c d → b < d → place a b < place c d
  pub by_lower : (a b c : ℕ) → IsPair n a b → IsPair n c b → a < c → place a b < place c b
  pub listed : (a b : ℕ) (d : ℕ × ℕ) → IsPair n a b → slice_index_or (pairs n) (place a b) d ≡ (a, b)
  pub all : length (pairs n) ≡ count_of_pairs n

-- so it is for any number of lots, and at most 24 lots have at most 276 pairs
pub record PairsHavePlaces : Type 0 where
  pub places : (n : ℕ) → Places n
  pub most : (n : ℕ) → n ≤ 24 → count_of_pairs n ≤ 276
