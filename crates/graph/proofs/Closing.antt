-- What taking one lot out does to the links.
use Rattle.std.proofs.lemmas.Bool.Decides.{nat_tests}
use Rattle.std.proofs.Common.{arith, ◌≡◌, ℕ, Bool, true, false, ◌≢◌, ◌⊎◌, List}
use Rattle.std.proofs.lemmas.Bool.{or_cases, or_left}
use Rattle.graph.specs.Filling.{both_neighbours, closed}
use Rattle.graph.specs.Lots.{Lot, has}
use Rattle.graph.specs.Pairs.{OfPairs}

module _ (v : ℕ) (rest : List ℕ) (e : ℕ → ℕ → Bool) where
  pub closed_more : (x y : ℕ) → e x y ≡ true → closed v rest e x y ≡ true
  closed_more x y = or_left (e x y) (both_neighbours v rest e x y)

  pub closed_joins : (x y : ℕ) → has x rest ≡ true → has y rest ≡ true → e v x ≡ true → e v y ≡ true → x ≢ y → closed v rest e x y ≡ true
  closed_joins x y p q l k ne = grind (arith, nat_tests)

  pub closed_cases : (x y : ℕ) → closed v rest e x y ≡ true → (e x y ≡ true) ⊎ (both_neighbours v rest e x y ≡ true)
  closed_cases x y = or_cases (e x y) (both_neighbours v rest e x y)

  -- a lot that does not stand gets no link
  pub closed_off : (x y : ℕ) → has x rest ≡ false → closed v rest e x y ≡ true → e x y ≡ true
  closed_off x y o h = grind (arith, nat_tests)

  -- the links stay a test of the pairs of the lots
  pub closed_pairs : (n : ℕ) → OfPairs n e → ((z : ℕ) → has z rest ≡ true → Lot n z) → OfPairs n (closed v rest e)
  closed_pairs n o l = grind (arith, nat_tests)
