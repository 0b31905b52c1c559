-- The standing lots, held as a flag for each lot.
use Rattle.std.proofs.lemmas.Bool.Decides.{nat_tests}
use Rattle.std.proofs.Common.{◌≡◌, ℕ, zero, suc, ◌+◌, ◌-◌, ◌<◌, ◌≤◌, Bool, true, false, ◌⊎◌, List, [], ◌∷◌, length, get_or, set, replicate, filter, sym, refl, ap, ap₂, cond, ◌∙◌, inl, inr, arith}
use Rattle.std.specs.List.{range_with_len}
use Rattle.std.proofs.lemmas.List.{get_or_past}
use Rattle.std.proofs.lemmas.Bool.{false≢true}
use Rattle.graph.specs.Lots.{has, without}
use Rattle.graph.specs.Standing.{flagged_from}
use Rattle.graph.specs.StandingLaws.{FlagsStand}
use Rattle.graph.proofs.Members.{without_none}

all_from : (n k : ℕ) → flagged_from k (replicate n true) ≡ range_with_len k n
all_from zero k = refl
all_from (suc n) k = ap (λ xs. k ∷ xs) (all_from n (k + 1))

from_least : (bs : List Bool) (k x : ℕ) → has x (flagged_from k bs) ≡ true → k ≤ x
from_least [] k x h = absurd (false≢true h)
from_least (true ∷ bs) k x h = grind (arith, nat_tests, from_least bs (k + 1) x)
from_least (false ∷ bs) k x h = grind (arith, nat_tests, from_least bs (k + 1) x h)

-- a lot below the first flag's does not stand
not_below : (bs : List Bool) (k x : ℕ) → x < k → has x (flagged_from k bs) ≡ false
not_below bs k x l = grind (arith, nat_tests, from_least bs k x)

stands_from : (bs : List Bool) (k i x : ℕ) → k + i ≡ x → has x (flagged_from k bs) ≡ get_or bs i false
stands_from [] k i x e = refl
stands_from (true ∷ bs) k zero x e = grind (arith, nat_tests)
stands_from (false ∷ bs) k zero x e = not_below bs (k + 1) x (omega arith)
stands_from (true ∷ bs) k (suc i) x e = grind (arith, nat_tests, stands_from bs (k + 1) i x (omega arith))
stands_from (false ∷ bs) k (suc i) x e = stands_from bs (k + 1) i x (omega arith)

out_from : (bs : List Bool) (k i x : ℕ) → k + i ≡ x → flagged_from k (set bs i false) ≡ without x (flagged_from k bs)
out_from [] k i x e = refl
out_from (true ∷ bs) k zero x e = grind (arith, nat_tests, without_none x (flagged_from (k + 1) bs) (not_below bs (k + 1) x (omega arith)))
out_from (false ∷ bs) k zero x e = sym (without_none x (flagged_from (k + 1) bs) (not_below bs (k + 1) x (omega arith)))
out_from (true ∷ bs) k (suc i) x e = grind (arith, nat_tests, out_from bs (k + 1) i x (omega arith))
out_from (false ∷ bs) k (suc i) x e = out_from bs (k + 1) i x (omega arith)

pub flags_stand : FlagsStand
flags_stand = record { all = λ n. all_from n 1; stands = λ bs i. stands_from bs 1 i (1 + i) refl; out = λ bs i. out_from bs 1 i (1 + i) refl }

-- a lot stands when its flag is set
pub flag_of : (bs : List Bool) (x : ℕ) → 1 ≤ x → has x (flagged_from 1 bs) ≡ get_or bs (x - 1) false
flag_of bs x l = stands_from bs 1 (x - 1) x (omega arith)

-- a number that is none of the lots' does not stand
pub no_lot : (bs : List Bool) (x : ℕ) → (x ≡ 0) ⊎ (length bs < x) → has x (flagged_from 1 bs) ≡ false
no_lot bs x (inl e) = not_below bs 1 x (omega arith)
no_lot bs x (inr l) = flag_of bs x (omega arith) ∙ get_or_past bs (x - 1) false (omega arith)

-- what stands is a lot
pub stands_within : (bs : List Bool) (x : ℕ) → has x (flagged_from 1 bs) ≡ true → (1 ≤ x) × (x ≤ length bs)
stands_within bs x h = grind (arith, nat_tests, from_least bs 1 x h, no_lot bs x)

-- the numbers that pass a test, where it says of each what the lot's flag says
filtered_from : (test : ℕ → Bool) (bs : List Bool) (k : ℕ) → ((i : ℕ) → i < length bs → test (k + i) ≡ get_or bs i false)
    → filter test (range_with_len k (length bs)) ≡ flagged_from k bs
filtered_from test [] k h = refl
filtered_from test (b ∷ bs) k h =
    let e : test k ≡ b = ap test (omega arith) ∙ h 0 (omega arith) in
    ap₂ (λ t xs. cond t (k ∷ xs) xs) e (filtered_from test bs (k + 1) (λ i l. ap test (omega arith) ∙ h (suc i) (omega arith)))

pub filtered : (bs : List Bool) → filter (λ x. has x (flagged_from 1 bs)) (range_with_len 1 (length bs)) ≡ flagged_from 1 bs
filtered bs = filtered_from (λ x. has x (flagged_from 1 bs)) bs 1 (λ i l. stands_from bs 1 i (1 + i) refl)
