-- How many marks there are: more marks weigh more.
use Rattle.std.proofs.lemmas.Bool.Decides.{nat_tests}
use Rattle.std.proofs.Common.{◌≡◌, ℕ, zero, suc, ◌+◌, ◌*◌, ◌≤◌, Bool, true, false, cond, suc-mul, arith}
use Rattle.graph.specs.Growth.{Grown}
use Rattle.graph.specs.Lots.{Lot}
use Rattle.graph.specs.Marks.{Marks, idle}

-- sums over the lots 1 to n
sum : ℕ → (ℕ → ℕ) → ℕ
sum zero f = 0
sum (suc k) f = f (suc k) + sum k f

sum_le : (n : ℕ) (f g : ℕ → ℕ) → ((k : ℕ) → f k ≤ g k) → sum n f ≤ sum n g
unfolding sum
sum_le zero f g h = omega arith
sum_le (suc j) f g h = let i = sum_le j f g h in let p = h (suc j) in omega arith

-- where the sums are no further apart, neither are the parts
sum_part : (n : ℕ) (f g : ℕ → ℕ) → ((k : ℕ) → f k ≤ g k) → sum n g ≤ sum n f → (k : ℕ) → Lot n k → g k ≤ f k
unfolding sum
sum_part zero f g h e k l = absurd (omega arith)
sum_part (suc j) f g h e k l = grind (arith, nat_tests, sum_le j f g h, h (suc j), sum_part j f g h)

sum_bound : (n c : ℕ) (f : ℕ → ℕ) → ((k : ℕ) → f k ≤ c) → sum n f ≤ n * c
unfolding sum
sum_bound zero c f h = omega arith
sum_bound (suc j) c f h = let i = sum_bound j c f h in let p = h (suc j) in omega (arith, suc-mul j c)

-- how many marks there are on two lots, and on all lots
abbrev here : Marks → ℕ → ℕ → ℕ
here m a b = cond (idle m true a b) 1 0 + cond (idle m false a b) 1 0

abbrev row : ℕ → Marks → ℕ → ℕ
row n m a = sum n (here m a)

pub weight : ℕ → Marks → ℕ
weight n m = sum n (row n m)

pub weight_most : (n : ℕ) (m : Marks) → weight n m ≤ n * (n * 2)
unfolding weight
weight_most n m = sum_bound n (n * 2) (row n m) (λ a. sum_bound n 2 (here m a) (λ b. grind (arith, nat_tests)))

module _ (n : ℕ) (m m' : Marks) (g : Grown m m') where
  here_le : (a b : ℕ) → here m a b ≤ here m' a b
  here_le a b = grind (arith, nat_tests, g true a b, g false a b)

  row_le : (a : ℕ) → row n m a ≤ row n m' a
  row_le a = sum_le n (here m a) (here m' a) (here_le a)

  pub weight_le : weight n m ≤ weight n m'
  unfolding weight
  weight_le = sum_le n (row n m) (row n m') row_le

  -- where there are no more marks on the lots, they are the same there
  pub no_heavier : weight n m' ≤ weight n m → (s : Bool) (a b : ℕ) → Lot n a → Lot n b → idle m' s a b ≡ true → idle m s a b ≡ true
  unfolding weight
  no_heavier w s a b la lb h =
      let r = sum_part n (row n m) (row n m') row_le w a la in
      let q = sum_part n (here m a) (here m' a) (here_le a) r b lb in
      grind (arith, nat_tests, g true a b, g false a b)
