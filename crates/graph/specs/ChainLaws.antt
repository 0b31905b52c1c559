-- What holds of chains (statements). Rests on Chains, Joined and Lots.
use Rattle.std.specs.Prelude.{◌≡◌, ℕ, Bool, true, List, ◌∷◌}
use Rattle.graph.specs.Chains.{Chain, Path}
use Rattle.graph.specs.Joined.{joined}
use Rattle.graph.specs.Lots.{Lot, Simple}

-- the pairs of e are of n lots
abbrev pub Within : ℕ → (ℕ → ℕ → Bool) → Type 0
Within n e = (x y : ℕ) → e x y ≡ true → Lot n x × Lot n y

-- The test whether two lots are joined says exactly whether a chain joins them.
abbrev pub JoinedIsChained : Type 0
JoinedIsChained =
    (n : ℕ) (e : ℕ → ℕ → Bool) → Within n e → (x y : ℕ)
    → (joined n e x y ≡ true → Chain e y x) × (Chain e y x → joined n e x y ≡ true)

-- Where a chain leads, a simple chain leads: a path that passes no lot twice; and a path is a chain.
pub record ChainsHavePaths : Type 0 where
  pub simple : (e : ℕ → ℕ → Bool) (y x : ℕ) → Chain e y x → (ps : List ℕ) × Path e y x ps × Simple (x ∷ ps)
  pub chain : (e : ℕ → ℕ → Bool) (y x : ℕ) (ps : List ℕ) → Path e y x ps → Chain e y x
