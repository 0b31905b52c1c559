-- Filling: while lots stand, a picker names one, every two of its standing neighbours become linked, and it is taken out (executable). Rests on Lots and Rounds.
use Rattle.std.specs.Prelude.{ℕ, zero, suc, Bool, not, ◌&&◌, ◌||◌, List, [], ◌∷◌, ◌==◌}
use Rattle.formula.specs.Tree.{Tree}
use Rattle.formula.specs.declared.node.Pair.{Pair}
use Rattle.graph.specs.Lots.{lots, has, without}
use Rattle.graph.specs.Marks.{dashed, solid}
use Rattle.graph.specs.Rounds.{marked}

-- a picker's answer is a function of the standing lots, in rising order, and of which pairs are linked
abbrev pub Pick : Type 0
Pick = List ℕ → (ℕ → ℕ → Bool) → ℕ

-- two different lots of a list are both neighbours of v
abbrev pub both_neighbours : ℕ → List ℕ → (ℕ → ℕ → Bool) → ℕ → ℕ → Bool
both_neighbours v rest e x y = ((has x rest && has y rest) && (e v x && e v y)) && not (x == y)

-- the linked pairs after v is taken out, where `rest` are the lots that stand on
abbrev pub closed : ℕ → List ℕ → (ℕ → ℕ → Bool) → ℕ → ℕ → Bool
closed v rest e x y = e x y || both_neighbours v rest e x y

-- how far the filling has come: the lots that stand, and the linked pairs
pub record Stage : Type 0 where
  pub standing : List ℕ
  pub linked : ℕ → ℕ → Bool

-- v is taken out
abbrev pub taken_out : ℕ → List ℕ → (ℕ → ℕ → Bool) → Stage
taken_out v standing e = record { standing = without v standing; linked = closed v (without v standing) e }

-- one lot more is named and taken out, if one stands
abbrev pub next_of : Pick → List ℕ → (ℕ → ℕ → Bool) → Stage
next_of pick [] e = record { standing = []; linked = e }
next_of pick (x ∷ rest) e = taken_out (pick (x ∷ rest) e) (x ∷ rest) e

-- the stage after that
abbrev pub next : Pick → Stage → Stage
next pick s = next_of pick s.standing s.linked

-- the stage after so many lots
abbrev pub stages : ℕ → Pick → Stage → Stage
stages zero pick s = s
stages (suc k) pick s = stages k pick (next pick s)

-- at first all lots stand, and the dashed and solid pairs are linked
abbrev pub start : ℕ → List (Tree (Pair ℕ)) → Stage
start n fs = record { standing = lots n; linked = λ a b. dashed fs (marked n fs) a b || solid fs (marked n fs) a b }

-- the linked pairs at the end
abbrev pub links : ℕ → List (Tree (Pair ℕ)) → Pick → ℕ → ℕ → Bool
links n fs pick = (stages n pick (start n fs)).linked

-- the lot that is named, if one stands, and those that are named later
abbrev pub named_then : Pick → List ℕ → (ℕ → ℕ → Bool) → List ℕ → List ℕ
named_then pick [] e later = []
named_then pick (x ∷ rest) e later = pick (x ∷ rest) e ∷ later

-- the lots in the order in which they are named
abbrev pub named : ℕ → Pick → Stage → List ℕ
named zero pick s = []
named (suc k) pick s = named_then pick s.standing s.linked (named k pick (next pick s))

-- the order of elimination
abbrev pub order : ℕ → List (Tree (Pair ℕ)) → Pick → List ℕ
order n fs pick = named n pick (start n fs)
