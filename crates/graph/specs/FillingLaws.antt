-- What holds of filling, for every picker (statements). Rests on Filled, Filling, Pickers and Pairs.
use Rattle.std.specs.Prelude.{◌≡◌, ℕ, ◌≤◌, Bool, true, ◌⊎◌, List, [], ◌∷◌}
use Rattle.formula.specs.Tree.{Tree}
use Rattle.formula.specs.declared.node.Pair.{Pair}
use Rattle.graph.specs.Filled.{Filled, Joins, Agree, Rising, NamesStanding}
use Rattle.graph.specs.Filling.{Pick, stages, start, links, order}
use Rattle.graph.specs.InForce.{of_lots}
use Rattle.graph.specs.Lots.{Lot, has, Simple}
use Rattle.graph.specs.Marks.{dashed, solid}
use Rattle.graph.specs.Pairs.{OfPairs}
use Rattle.graph.specs.Pickers.{lowest_first, degree, fewest_first}
use Rattle.graph.specs.Rounds.{marked}

-- What filling with a picker gives: every lot is named once, and no other; the links are filled in that order; they are a test of the pairs of the lots; every
-- dashed or solid pair is linked; and every linked pair is dashed, solid, or became linked when a lot was taken out of which both were standing neighbours.
pub record Fills (n : ℕ) (fs : List (Tree (Pair ℕ))) (pick : Pick) : Type 0 where
  pub every : (x : ℕ) → Lot n x → has x (order n fs pick) ≡ true
  pub lots : (x : ℕ) → has x (order n fs pick) ≡ true → Lot n x
  pub once : Simple (order n fs pick)
  pub none_stands : (stages n pick (start n fs)).standing ≡ []
  pub filled : Filled (links n fs pick) (order n fs pick)
  pub pairs : OfPairs n (links n fs pick)
  pub dashes : (x y : ℕ) → dashed fs (marked n fs) x y ≡ true → links n fs pick x y ≡ true
  pub solids : (x y : ℕ) → solid fs (marked n fs) x y ≡ true → links n fs pick x y ≡ true
  pub origin : (x y : ℕ) → links n fs pick x y ≡ true
      → (dashed fs (marked n fs) x y ≡ true) ⊎ ((solid fs (marked n fs) x y ≡ true) ⊎ Joins n pick (start n fs) x y)

-- So it is with every picker that names a standing lot.
abbrev pub LinksAreFilled : Type 0
LinksAreFilled = (n : ℕ) (fs : List (Tree (Pair ℕ))) → of_lots n fs ≡ true → (pick : Pick) → NamesStanding pick → Fills n fs pick

-- The links depend on the picker's function only where it can be asked.
abbrev pub LinksByPicks : Type 0
LinksByPicks = (n : ℕ) (fs : List (Tree (Pair ℕ))) → of_lots n fs ≡ true → (pick other : Pick) → Agree n pick other → links n fs pick ≡ links n fs other

-- The lots that stand are in rising order, whatever the picker.
abbrev pub StandingRises : Type 0
StandingRises = (n : ℕ) (fs : List (Tree (Pair ℕ))) (pick : Pick) (k : ℕ) → Rising (stages k pick (start n fs)).standing

-- Both pickers name a lot that stands. The first names the lowest. The second names one with fewest standing neighbours, and of those the lowest.
pub record PickersPick : Type 0 where
  pub lowest : NamesStanding lowest_first
  pub lowest_low : (x : ℕ) (rest : List ℕ) (e : ℕ → ℕ → Bool) → Rising (x ∷ rest) → (z : ℕ) → has z (x ∷ rest) ≡ true → lowest_first (x ∷ rest) e ≤ z
  pub fewest : NamesStanding fewest_first
  pub fewest_few : (x : ℕ) (rest : List ℕ) (e : ℕ → ℕ → Bool) → Rising (x ∷ rest) → (z : ℕ) → has z (x ∷ rest) ≡ true
      → degree e (fewest_first (x ∷ rest) e) (x ∷ rest) ≤ degree e z (x ∷ rest)
  pub fewest_low : (x : ℕ) (rest : List ℕ) (e : ℕ → ℕ → Bool) → Rising (x ∷ rest) → (z : ℕ) → has z (x ∷ rest) ≡ true
      → degree e z (x ∷ rest) ≡ degree e (fewest_first (x ∷ rest) e) (x ∷ rest) → fewest_first (x ∷ rest) e ≤ z
