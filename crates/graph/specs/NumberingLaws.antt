-- What holds of the variables of pairs (statements). Rests on Numbering.
use Rattle.std.specs.Prelude.{◌≡◌, ℕ, suc, ◌<◌, ◌≤◌, Bool, true, false, take}
use Rattle.graph.specs.Numbering.{linked_count, variable, pair_variables}
use Rattle.graph.specs.Pairs.{IsPair, place, count_of_pairs, pairs}

-- A pair that is not linked has 0, a linked one the number of linked pairs up to its place. So variables rise with the places, and they are exactly the numbers from
-- 1 to the number of linked pairs, which is at most that of all pairs.
pub record Numbered (n : ℕ) (linked : ℕ → ℕ → Bool) : Type 0 where
  pub unlinked : (a b : ℕ) → IsPair n a b → linked a b ≡ false → variable n linked a b ≡ 0
  pub counted : (a b : ℕ) → IsPair n a b → linked a b ≡ true → variable n linked a b ≡ suc (linked_count linked (take (place a b) (pairs n)))
  pub rising : (a b c d : ℕ) → IsPair n a b → IsPair n c d → linked a b ≡ true → linked c d ≡ true → place a b < place c d → variable n linked a b < variable n linked c d
  pub within : (a b : ℕ) → IsPair n a b → variable n linked a b ≤ pair_variables n linked
  pub every : (v : ℕ) → 1 ≤ v → v ≤ pair_variables n linked → (a b : ℕ) × IsPair n a b × (linked a b ≡ true) × (variable n linked a b ≡ v)
  pub most : pair_variables n linked ≤ count_of_pairs n

-- So it is for any number of lots and any links.
abbrev pub PairsAreNumbered : Type 0
PairsAreNumbered = (n : ℕ) (linked : ℕ → ℕ → Bool) → Numbered n linked
