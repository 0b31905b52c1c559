-- The tests that parts stand before the whole, node by node.
use Rattle.std.proofs.Common.{◌≡◌, ℕ, zero, suc, ◌+◌, ◌<◌, ◌≤◌, true, ◌&&◌, ltb, List, [], ◌∷◌, length, get_or, refl, ap, ◌∙◌, ap₂, arith}
use Rattle.std.specs.List.{enumerate_from, list_all}
use Rattle.std.proofs.lemmas.Bool.{and_parts, and_from, ltb-true, lt-ltb}
use Rattle.formula.specs.declared.node.Node.{Node}
use Rattle.formula.specs.Evaluation.{all_below, parts_first}
use Rattle.formula.specs.Parts.{parts, AllBelow}

-- a test on one or two indices, read
pub below_one : (k i : ℕ) → all_below k (i ∷ []) ≡ true → i < k
below_one k i h = ltb-true i k (and_parts (ltb i k) true h).0

pub below_two : (k i j : ℕ) → all_below k (i ∷ j ∷ []) ≡ true → (i < k) × (j < k)
below_two k i j h =
    let b = and_parts (ltb i k) (all_below k (j ∷ [])) h in
    (ltb-true i k b.0, below_one k j b.1)

-- the parts of node i stand before i
pub first_at : {A : Type 0} (k : ℕ) (ns : List (Node A)) (i : ℕ) (n : Node A) → parts_first k ns ≡ true → i < length ns → n ≡ get_or ns i n
    → all_below (k + i) (parts n) ≡ true
first_at k [] i n f l is = absurd (omega arith)
first_at k (m ∷ ns) zero n f l is =
    let b = and_parts (all_below k (parts m)) (parts_first (suc k) ns) f in
    ap₂ (λ j x. all_below j (parts x)) (let z : k + 0 ≡ k = omega arith in z) is ∙ b.0
first_at k (m ∷ ns) (suc i) n f l is =
    let b = and_parts (all_below k (parts m)) (parts_first (suc k) ns) f in
    ap (λ j. all_below j (parts n)) (let z : k + suc i ≡ suc k + i = omega arith in z) ∙ first_at (suc k) ns i n b.1 (omega arith) is

-- the same test of a table as one of its nodes with their indices
pub all_numbered : {A : Type 0} (k : ℕ) (ns : List (Node A)) → list_all (λ p. all_below p.0 (parts p.1)) (enumerate_from k ns) ≡ parts_first k ns
all_numbered k [] = refl
all_numbered k (n ∷ ns) =
    ap (λ b. all_below k (parts n) && b)
    (all_numbered (k + 1) ns ∙ ap (λ j. parts_first j ns) (let z : k + 1 ≡ suc k = omega arith in z))

pub below_wider : (k m : ℕ) (is : List ℕ) → k ≤ m → all_below k is ≡ true → all_below m is ≡ true
below_wider k m [] l h = refl
below_wider k m (i ∷ is) l h =
    let b = and_parts (ltb i k) (all_below k is) h in
    let j = ltb-true i k b.0 in
    and_from (ltb i m) (all_below m is) (lt-ltb i m (omega arith)) (below_wider k m is l b.1)

pub below_from : (k : ℕ) (is : List ℕ) → AllBelow k is → all_below k is ≡ true
below_from k [] h = refl
below_from k (i ∷ is) h = and_from (ltb i k) (all_below k is) (lt-ltb i k h.0) (below_from k is h.1)
