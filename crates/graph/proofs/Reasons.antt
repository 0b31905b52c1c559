-- The reason for marking: the test is exact, and says the same in either order.
use Rattle.std.proofs.Common.{arith, ◌≡◌, ℕ, Bool, true, false, ◌&&◌}
use Rattle.std.proofs.lemmas.Bool.Decides.{nat_tests}
use Rattle.std.proofs.lemmas.Bool.{false_from_ne_true}
use Rattle.graph.specs.Chains.{Chain, step}
use Rattle.graph.specs.Joined.{joined}
use Rattle.graph.specs.Lots.{some}
use Rattle.graph.specs.Pairs.{OfPairs}
use Rattle.graph.specs.Reasons.{Reason}
use Rattle.graph.specs.RoundLaws.{ReasonsAreTested}
use Rattle.graph.specs.Rounds.{crossed, reason}
use Rattle.graph.proofs.Members.{some_from, some_is}
use Rattle.graph.proofs.PairTests.{turned}
use Rattle.graph.proofs.Reaching.{joined_is_chained, turn}

module _ (n : ℕ) (d s : ℕ → ℕ → Bool) (D : OfPairs n d) (S : OfPairs n s) where
  chained : {y x : ℕ} → joined n d x y ≡ true → Chain d y x
  chained {y} {x} = (joined_is_chained n d D.lots x y).0

  tests : {y x : ℕ} → Chain d y x → joined n d x y ≡ true
  tests {y} {x} = (joined_is_chained n d D.lots x y).1

  abbrev inside : ℕ → ℕ → ℕ → Bool
  inside a x y = s x y && (joined n d a x && joined n d a y)

  -- a solid pair inside the component of a
  pub crosses : (a x y : ℕ) → s x y ≡ true → Chain d x a → Chain d y a → crossed n d s a ≡ true
  crosses a x y h c k =
      let l = S.lots x y h in
      some_from n (λ v. some n (inside a v)) x l.0 (some_from n (inside a x) y l.1 (grind (arith, nat_tests, tests c, tests k)))

  has_reason : (sign : Bool) (a b : ℕ) → reason n d s sign a b ≡ true → Reason d s sign a b
  has_reason true a b h = (grind (arith, nat_tests), λ x y t c k. grind (arith, nat_tests, crosses a x y t c k))
  has_reason false a b h = (grind (arith, nat_tests), λ c. grind (arith, nat_tests, tests c))

  from_reason : (sign : Bool) (a b : ℕ) → Reason d s sign a b → reason n d s sign a b ≡ true
  from_reason true a b (h, none) =
      let clear : crossed n d s a ≡ false = false_from_ne_true (crossed n d s a) (λ c.
      let (x, _, p) = some_is n (λ v. some n (inside a v)) c in
      let (y, _, q) = some_is n (inside a x) p in
      none x y (grind (arith, nat_tests)) (chained (grind (arith, nat_tests))) (chained (grind (arith, nat_tests)))) in
      grind (arith, nat_tests)
  from_reason false a b (h, none) =
      let apart : joined n d a b ≡ false = false_from_ne_true (joined n d a b) (λ c. none (chained c)) in
      grind (arith, nat_tests)

  turn_reason : (sign : Bool) (a b : ℕ) → Reason d s sign a b → Reason d s sign b a
  turn_reason true a b (h, none) = (turned D a b h, λ x y t c k. none x y t (step h c) (step h k))
  turn_reason false a b (h, none) = (turned S a b h, λ c. none (turn (turned D) c))

  pub reason_turns : (sign : Bool) (a b : ℕ) → reason n d s sign a b ≡ reason n d s sign b a
  reason_turns sign a b = grind (arith, nat_tests, has_reason sign a b, turn_reason sign a b, from_reason sign b a, has_reason sign b a, turn_reason sign b a, from_reason sign a b)

pub reasons_are_tested : ReasonsAreTested
reasons_are_tested n d s D S sign a b = (has_reason n d s D S sign a b, from_reason n d s D S sign a b)
