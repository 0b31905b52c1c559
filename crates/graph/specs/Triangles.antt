-- Triangles of linked pairs, and what it is to obey them (meaning). Rests on Pairs.
use Rattle.std.specs.Prelude.{◌≡◌, ℕ, Bool, true, false, ◌≢◌}
use Rattle.graph.specs.Pairs.{same_pair}

-- three different lots, linked pairwise
pub record Triangle (linked : ℕ → ℕ → Bool) (a b c : ℕ) : Type 0 where
  pub ab : a ≢ b
  pub bc : b ≢ c
  pub ac : a ≢ c
  pub linked_ab : linked a b ≡ true
  pub linked_bc : linked b c ≡ true
  pub linked_ac : linked a c ≡ true

-- Every triangle that concludes a wanted pair, here (a, c), without the pair of u and v among its conditions (a, b) and (b, c).
abbrev pub Concluding : (linked wanted : ℕ → ℕ → Bool) → ℕ → ℕ → (ℕ → ℕ → ℕ → Type 0) → Type 0
Concluding linked wanted u v claim =
    (a b c : ℕ) → Triangle linked a b c → wanted a c ≡ true → same_pair a b u v ≡ false → same_pair b c u v ≡ false → claim a b c

-- its conditions are wanted
abbrev pub ConditionsWanted : (wanted : ℕ → ℕ → Bool) → ℕ → ℕ → ℕ → Type 0
ConditionsWanted wanted a b c = (wanted a b ≡ true) × (wanted b c ≡ true)

-- it is obeyed: where both conditions are true, so is the pair that it concludes
abbrev pub Obeyed : (value : ℕ → ℕ → Bool) → ℕ → ℕ → ℕ → Type 0
Obeyed value a b c = value a b ≡ true → value b c ≡ true → value a c ≡ true
