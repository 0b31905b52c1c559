-- Chains of pairs, and paths, which are chains with their lots named (meaning). Rests on nothing.
use Rattle.std.specs.Prelude.{◌≡◌, ℕ, Bool, true, List, [], ◌∷◌}

-- A chain from a lot to `end`, each step a pair of e. Two lots lie in one component of e when a chain of e leads from one to the other; a lot alone is a component.
pub data Chain (e : ℕ → ℕ → Bool) (end : ℕ) : ℕ → Type 0 where
  stop : Chain e end end
  step : {x p : ℕ} → e x p ≡ true → Chain e end p → Chain e end x

-- The same chain with its lots named: a path from x to y, where ps are the lots after x in order, the last of them y.
abbrev pub Path : (ℕ → ℕ → Bool) → ℕ → ℕ → List ℕ → Type 0
Path e y x [] = x ≡ y
Path e y x (p ∷ ps) = (e x p ≡ true) × Path e y p ps
