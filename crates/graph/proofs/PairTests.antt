-- Tests of the pairs of the lots.
use Rattle.std.proofs.lemmas.Bool.Decides.{nat_tests}
use Rattle.std.proofs.Common.{arith, ◌≡◌, ℕ, Bool, true, ◌||◌, ◌∙◌}
use Rattle.graph.specs.Pairs.{IsPair, OfPairs}

-- in the other order
pub turned : {n : ℕ} {e : ℕ → ℕ → Bool} → OfPairs n e → (a b : ℕ) → e a b ≡ true → e b a ≡ true
turned o a b h = o.turns b a ∙ h

-- what holds of the pairs that pass, lower lot first, holds in both orders
pub by_pairs : (n : ℕ) (e : ℕ → ℕ → Bool) → OfPairs n e → (P : ℕ → ℕ → Type 0) → ((a b : ℕ) → P a b → P b a)
    → ((a b : ℕ) → IsPair n a b → e a b ≡ true → P a b) → (a b : ℕ) → e a b ≡ true → P a b
by_pairs n e o P turn h a b t = grind (arith, nat_tests)

-- tests that say the same of all pairs are the same
pub same_tests : (n : ℕ) (e f : ℕ → ℕ → Bool) → OfPairs n e → OfPairs n f → ((a b : ℕ) → IsPair n a b → e a b ≡ f a b) → e ≡ f
same_tests n e f o p h = grind (arith, nat_tests)

-- pairs that pass one of two tests
pub either_pairs : (n : ℕ) (e f : ℕ → ℕ → Bool) → OfPairs n e → OfPairs n f → OfPairs n (λ a b. e a b || f a b)
either_pairs n e f o p = grind (arith, nat_tests)
