-- What a picker must name, what it is that links are filled, where a link comes from, and where pickers agree (meaning). Rests on Filling and Pairs.
use Rattle.std.specs.Prelude.{◌≡◌, ℕ, ◌<◌, Bool, true, ◌≢◌, List, [], ◌∷◌}
use Rattle.graph.specs.Filling.{Pick, both_neighbours, Stage, stages}
use Rattle.graph.specs.Lots.{Lot, has, without}
use Rattle.graph.specs.Pairs.{OfPairs}

-- where a lot stands it names one that stands, else 0
pub record NamesStanding (pick : Pick) : Type 0 where
  pub stands : (x : ℕ) (rest : List ℕ) (e : ℕ → ℕ → Bool) → has (pick (x ∷ rest) e) (x ∷ rest) ≡ true
  pub none : (e : ℕ → ℕ → Bool) → pick [] e ≡ 0

-- filled along an order: whenever two lots later than v are both linked with v, they are linked
abbrev pub Filled : (ℕ → ℕ → Bool) → List ℕ → Type 0
Filled linked [] = Unit {0}
Filled linked (v ∷ later) =
    ((x y : ℕ) → has x later ≡ true → has y later ≡ true → x ≢ y → linked v x ≡ true → linked v y ≡ true → linked x y ≡ true)
    × Filled linked later

-- a stage at which x and y became linked: some lot stood there, and both were standing neighbours of the lot that was named and taken out
pub record Joins (n : ℕ) (pick : Pick) (first : Stage) (x y : ℕ) : Type 0 where
  pub after : ℕ
  pub before : after < n
  pub stage : Stage
  pub is : stage ≡ stages after pick first
  pub out : ℕ
  pub picked : out ≡ pick stage.standing stage.linked
  pub stood : has out stage.standing ≡ true
  pub neighbours : both_neighbours out (without out stage.standing) stage.linked x y ≡ true

-- two pickers agree where one can be asked: some lot stands, all that stand are lots, and the links are a test of the pairs of the lots
abbrev pub Agree : ℕ → Pick → Pick → Type 0
Agree n pick other =
    (x : ℕ) (rest : List ℕ) (e : ℕ → ℕ → Bool) → ((z : ℕ) → has z (x ∷ rest) ≡ true → Lot n z) → OfPairs n e → pick (x ∷ rest) e ≡ other (x ∷ rest) e

-- in rising order
abbrev pub Rising : List ℕ → Type 0
Rising [] = Unit {0}
Rising (x ∷ xs) = ((z : ℕ) → has z xs ≡ true → x < z) × Rising xs
