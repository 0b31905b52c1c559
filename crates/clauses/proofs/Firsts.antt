-- What the least number that passes a test tells, and that no other answer tells it. Rests on specs/Falsity.
use Rattle.std.proofs.Common.{◌≡◌, ℕ, zero, suc, ◌<◌, Bool, true, false, Some, None, Option, refl, sym, ◌∙◌, arith}
use Rattle.clauses.specs.Falsity.{or_this, first_below}

-- what an answer says of the numbers below n
abbrev pub Least : (ℕ → Bool) → ℕ → Option ℕ → Type 0
Least f n (Some i) = (i < n) × (f i ≡ true) × ((j : ℕ) → j < i → f j ≡ false)
Least f n None = (j : ℕ) → j < n → f j ≡ false

least_step : (f : ℕ → Bool) (n : ℕ) (o : Option ℕ) (b : Bool) → f n ≡ b → Least f n o → Least f (suc n) (or_this o b n)
least_step f n (Some i) b e (l, t, before) = (omega arith, t, before)
least_step f n None true e below = (omega arith, e, below)
least_step f n None false e below = λ j l. grind arith

pub first_least : (f : ℕ → Bool) (n : ℕ) → Least f n (first_below f n)
unfolding first_below
first_least f zero = λ j l. absurd (omega arith)
first_least f (suc n) = least_step f n (first_below f n) (f n) refl (first_least f n)

least_same : (f : ℕ → Bool) (n : ℕ) (o p : Option ℕ) → Least f n o → Least f n p → o ≡ p
least_same f n (Some i) (Some j) s t = grind arith
least_same f n (Some i) None s t = grind arith
least_same f n None (Some j) s t = grind arith
least_same f n None None s t = refl

pub least_first : (f : ℕ → Bool) (n : ℕ) (o : Option ℕ) → Least f n o → o ≡ first_below f n
least_first f n o l = least_same f n o (first_below f n) l (first_least f n)

-- the same by an answer on a test that says as much of the numbers below n
pub first_of : (f g : ℕ → Bool) (n : ℕ) (o : Option ℕ) → ((i : ℕ) → i < n → g i ≡ f i) → (o ≡ None → (j : ℕ) → j < n → g j ≡ false)
    → ((i : ℕ) → o ≡ Some i → (i < n) × (g i ≡ true) × ((j : ℕ) → j < i → g j ≡ false)) → o ≡ first_below f n
first_of f g n None same none found = least_first f n None (λ j l. sym (same j l) ∙ none refl j l)
first_of f g n (Some i) same none found =
    let (low, here, before) = found i refl in
    least_first f n (Some i) (low, sym (same i low) ∙ here, λ j l. sym (same j (omega arith)) ∙ before j l)
