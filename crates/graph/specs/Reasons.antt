-- The reason for marking a literal, by chains of dashed pairs (meaning). Rests on Chains.
use Rattle.std.specs.Prelude.{◌≡◌, ℕ, Bool, true, false}
use Rattle.graph.specs.Chains.{Chain}

-- The reason for marking, by chains of dashed pairs: for the positive literal of a dashed pair, no solid pair has chains from the pair's lot to both its lots; for
-- the negative literal of a solid pair, no chain leads from one of its lots to the other.
abbrev pub Reason : (ℕ → ℕ → Bool) → (ℕ → ℕ → Bool) → Bool → ℕ → ℕ → Type 0
Reason d s true a b = (d a b ≡ true) × ((x y : ℕ) → s x y ≡ true → Chain d x a → Chain d y a → ⊥)
Reason d s false a b = (s a b ≡ true) × (Chain d b a → ⊥)
