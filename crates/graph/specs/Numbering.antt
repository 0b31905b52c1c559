-- Numbering of the linked pairs (executable). Rests on Pairs.
use Rattle.std.specs.Prelude.{ℕ, suc, Bool, cond, List, [], ◌∷◌, slice_index, count_by}
use Rattle.graph.specs.Pairs.{place, pairs}

-- the variable of a pair where k is the next: k if it is linked, else 0
abbrev pub number : ℕ → (ℕ → ℕ → Bool) → ℕ × ℕ → ℕ
number k linked p = cond (linked p.0 p.1) k 0

-- the next after that pair
abbrev pub after : ℕ → (ℕ → ℕ → Bool) → ℕ × ℕ → ℕ
after k linked p = cond (linked p.0 p.1) (suc k) k

-- the variables of a list of pairs, from k on
abbrev pub numbers : ℕ → (ℕ → ℕ → Bool) → List (ℕ × ℕ) → List ℕ
numbers k linked [] = []
numbers k linked (p ∷ ps) = number k linked p ∷ numbers (after k linked p) linked ps

-- how many pairs of a list are linked
abbrev pub linked_count : (ℕ → ℕ → Bool) → List (ℕ × ℕ) → ℕ
linked_count linked ps = count_by (λ p. linked p.0 p.1) ps

-- of n lots, the variable of the pair of a and b, a below b: linked pairs are numbered from 1 by their places, a pair that is not linked has 0
abbrev pub variable : ℕ → (ℕ → ℕ → Bool) → ℕ → ℕ → ℕ
variable n linked a b = slice_index (numbers 1 linked (pairs n)) (place a b)

-- how many variables pairs have
abbrev pub pair_variables : ℕ → (ℕ → ℕ → Bool) → ℕ
pair_variables n linked = linked_count linked (pairs n)
