-- What a test that code hands over computes. Rests on nothing.
use Rattle.std.specs.Prelude.{◌≡◌, ℕ, Bool}
use Rattle.formula.specs.declared.node.Pair.{Pair}

-- whatever it may answer of a pair is the value of a function
abbrev pub Computes : (Pair ℕ → Bool → Type 0) → (Pair ℕ → Bool) → Type 0
Computes answers v = (p : Pair ℕ) (b : Bool) → answers p b → b ≡ v p
