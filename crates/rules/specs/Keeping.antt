-- When a numbering keeps a rule. Rests on Truth and Scales of crate formula.
use Rattle.std.specs.Prelude.{◌≡◌, ℕ, ◌-◌, ◌≤◌, Bool, true, List, ◌==◌, slice_index}
use Rattle.std.specs.List.{AllByRecursion}
use Rattle.formula.specs.declared.node.Pair.{Pair}
use Rattle.formula.specs.Scales.{two}
use Rattle.formula.specs.Tree.{Tree}
use Rattle.formula.specs.Truth.{truth}

-- A numbering gives every lot, from 1, a whole number: its firing.
abbrev pub Numbering : Type 0
Numbering = ℕ → ℕ

-- a pair is true if both lots have the same number
abbrev pub together : Numbering → Pair ℕ → Bool
together f p = f p.first == f p.second

-- a numbering keeps a formula that is true in it, by yes and no
abbrev pub kept_in : Numbering → Tree (Pair ℕ) → Bool
kept_in f t = truth two (together f) t

-- the numbering that a list of firings gives, lot 1 first
abbrev pub by_lot : List ℕ → Numbering
by_lot fs lot = slice_index fs (lot - 1)

-- it keeps one formula, and all of a list
abbrev pub Keeps : Numbering → Tree (Pair ℕ) → Type 0
Keeps f t = kept_in f t ≡ true

abbrev pub KeepsAll : Numbering → List (Tree (Pair ℕ)) → Type 0
KeepsAll f ts = AllByRecursion (Keeps f) ts

-- two numberings give each of n lots the same number
abbrev pub Agree : ℕ → Numbering → Numbering → Type 0
Agree n f g = (lot : ℕ) → 1 ≤ lot → lot ≤ n → f lot ≡ g lot
