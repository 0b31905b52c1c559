-- The test whether lots are joined, and chains, agree.
use Rattle.std.proofs.lemmas.Bool.Decides.{nat_tests}
use Rattle.std.proofs.Common.{◌≡◌, ℕ, zero, suc, Bool, true, ◌&&◌, ◌||◌, eqb, ◌⊎◌, sym, subst, inl, inr, ⊎_elim, arith}
use Rattle.std.proofs.lemmas.Bool.{cases_eq, eqb-true, or_cases, and_parts}
use Rattle.graph.specs.ChainLaws.{Within, JoinedIsChained}
use Rattle.graph.specs.Chains.{Chain, stop, step}
use Rattle.graph.specs.Joined.{joined, through}
use Rattle.graph.specs.Lots.{Lot}

-- a chain whose lots between are lots 1 to n, and whose ends are anywhere
data Walk (n : ℕ) (e : ℕ → ℕ → Bool) (end : ℕ) : ℕ → Type 0 where
  here : Walk n e end end
  last : {x : ℕ} → e x end ≡ true → Walk n e end x
  over : {x p : ℕ} → e x p ≡ true → Lot n p → Walk n e end p → Walk n e end x

module _ (e : ℕ → ℕ → Bool) where
  more : {k y x : ℕ} → Walk k e y x → Walk (suc k) e y x
  more here = here
  more (last f) = last f
  more (over f (i, m) w) = over f (i, omega arith) (more w)

  after : {n k y x : ℕ} → Lot n k → Walk n e y k → Walk n e k x → Walk n e y x
  after h v here = v
  after h v (last f) = over f h v
  after h v (over f m w) = over f m (after h v w)

  sound : (n x y : ℕ) → joined n e x y ≡ true → Walk n e y x
  unfolding joined
  sound zero x y h = ⊎_elim
      (λ t. subst (λ z. Walk zero e y z) (sym (eqb-true x y t)) here)
      (λ t. last t)
      (or_cases (eqb x y) (e x y) h)
  sound (suc k) x y h = ⊎_elim
      (λ t. more (sound k x y t))
      (λ t. let b = and_parts (joined k e x (suc k)) (joined k e (suc k) y) t in
      after (omega arith, omega arith) (more (sound k (suc k) y b.1)) (more (sound k x (suc k) b.0)))
      (or_cases (joined k e x y) (joined k e x (suc k) && joined k e (suc k) y) h)

  split : (k : ℕ) {y x : ℕ} → Walk (suc k) e y x → Walk k e y x ⊎ (Walk k e (suc k) x × Walk k e y (suc k))
  split k here = inl here
  split k (last f) = inl (last f)
  split k {y} {x} (over {p = p} f (i, m) w) = ⊎_elim
      (λ pk. let g : e x (suc k) ≡ true = subst (λ z. e x z ≡ true) pk f in ⊎_elim
      (λ c. inr (last g, subst (Walk k e y) pk c))
      (λ c. inr (last g, c.1))
      (split k w))
      (λ pk. let l : Lot k p = (i, omega arith) in ⊎_elim
      (λ c. inl (over f l c))
      (λ c. inr (over f l c.0, c.1))
      (split k w))
      (cases_eq p (suc k))

  flat : {y x : ℕ} → Walk zero e y x → (eqb x y || e x y) ≡ true
  flat here = grind (arith, nat_tests)
  flat (last f) = grind (arith, nat_tests)
  flat (over f l w) = absurd (omega arith)

  complete : (n x y : ℕ) → Walk n e y x → joined n e x y ≡ true
  unfolding joined
  complete zero x y w = flat w
  complete (suc k) x y w = ⊎_elim
      (λ c. grind (arith, nat_tests, complete k x y c))
      (λ c. grind (arith, nat_tests, complete k x (suc k) c.0, complete k (suc k) y c.1))
      (split k w)

  walk : {n y x : ℕ} → Within n e → Chain e y x → Walk n e y x
  walk i stop = here
  walk i (step {x = x} {p = p} f c) = over f (i x p f).1 (walk i c)

  chain : {n y x : ℕ} → Walk n e y x → Chain e y x
  chain here = stop
  chain (last f) = step f stop
  chain (over f m w) = step f (chain w)

pub joined_is_chained : JoinedIsChained
joined_is_chained n e i x y = (λ t. chain e (sound e n x y t), λ c. complete e n x y (walk e i c))

-- chains end to end, turned, and over more pairs
pub joint : {e : ℕ → ℕ → Bool} {z y x : ℕ} → Chain e y x → Chain e z y → Chain e z x
joint stop d = d
joint (step f c) d = step f (joint c d)

pub turn : {e : ℕ → ℕ → Bool} {y x : ℕ} → ((a b : ℕ) → e a b ≡ true → e b a ≡ true) → Chain e y x → Chain e x y
turn s stop = stop
turn s (step {x = x} {p = p} f c) = joint (turn s c) (step (s x p f) stop)

-- letting a lot through leaves its own row and column as they are, so one table serves for before and after
pub through_row : (k : ℕ) (f : ℕ → ℕ → Bool) (y : ℕ) → through k f k y ≡ f k y
through_row k f y = grind (arith, nat_tests)

pub through_column : (k : ℕ) (f : ℕ → ℕ → Bool) (x : ℕ) → through k f x k ≡ f x k
through_column k f x = grind (arith, nat_tests)
