-- Where the last false stands, and what it says that there is none. Rests on specs/States.
use Rattle.std.proofs.Common.{◌≡◌, ℕ, zero, suc, ◌<◌, Bool, true, false, List, [], ◌∷◌, length, get_or, Some, None, Option, refl, subst, arith}
use Rattle.std.specs.Bool.{beq}
use Rattle.search.specs.States.{last_at, last_of, last_false}

-- what an answer says of the values
abbrev pub Last : List Bool → Option ℕ → Type 0
Last bs (Some i) = (i < length bs) × (get_or bs i false ≡ false) × ((k : ℕ) → i < k → k < length bs → get_or bs k false ≡ true)
Last bs None = (k : ℕ) → k < length bs → get_or bs k false ≡ true

last_step : (b : Bool) (bs : List Bool) (o : Option ℕ) → Last bs o → Last (b ∷ bs) (last_at (beq b false) o)
last_step b bs (Some i) (l, here, after) = (omega arith, here, then)
  where
    then : (k : ℕ) → suc i < k → k < suc (length bs) → get_or (b ∷ bs) k false ≡ true
    then zero m n = absurd (omega arith)
    then (suc k) m n = after k (omega arith) (omega arith)
last_step false bs None h = (omega arith, refl, then)
  where
    then : (k : ℕ) → 0 < k → k < suc (length bs) → get_or (false ∷ bs) k false ≡ true
    then zero m n = absurd (omega arith)
    then (suc k) m n = h k (omega arith)
last_step true bs None h = then
  where
    then : (k : ℕ) → k < suc (length bs) → get_or (true ∷ bs) k false ≡ true
    then zero n = refl
    then (suc k) n = h k (omega arith)

last_told : (bs : List Bool) → Last bs (last_false bs)
unfolding last_of
last_told [] = λ k l. absurd (omega arith)
last_told (b ∷ bs) = last_step b bs (last_false bs) (last_told bs)

-- without a false, all are true
pub none_all_true : (bs : List Bool) → last_false bs ≡ None → (k : ℕ) → k < length bs → get_or bs k false ≡ true
none_all_true bs e = subst (Last bs) e (last_told bs)

last_same : (bs : List Bool) (o p : Option ℕ) → Last bs o → Last bs p → o ≡ p
last_same bs (Some i) (Some j) s t = grind arith
last_same bs (Some i) None s t = grind arith
last_same bs None (Some j) s t = grind arith
last_same bs None None s t = refl

pub last_from : (bs : List Bool) (o : Option ℕ) → (o ≡ None → (k : ℕ) → k < length bs → get_or bs k false ≡ true)
    → ((i : ℕ) → o ≡ Some i → (i < length bs) × (get_or bs i false ≡ false) × ((k : ℕ) → i < k → k < length bs → get_or bs k false ≡ true)) → o ≡ last_false bs
last_from bs None none found = last_same bs None (last_false bs) (none refl) (last_told bs)
last_from bs (Some i) none found = last_same bs (Some i) (last_false bs) (found i refl) (last_told bs)

pub last_within : (bs : List Bool) (i : ℕ) → last_false bs ≡ Some i → i < length bs
last_within bs i e = (subst (Last bs) e (last_told bs)).0
