-- The test whether a chain of pairs joins two lots (executable). Rests on nothing.
use Rattle.std.specs.Prelude.{ℕ, zero, suc, Bool, ◌&&◌, ◌||◌, ◌==◌}

-- joined before, or by way of the lot k
abbrev pub through : ℕ → (ℕ → ℕ → Bool) → ℕ → ℕ → Bool
through k f x y = f x y || (f x k && f k y)

-- joined by pairs of e, by way of the lots 1 to k only: one lot after another is let through
unfoldable pub joined : ℕ → (ℕ → ℕ → Bool) → ℕ → ℕ → Bool
joined zero e x y = x == y || e x y
joined (suc k) e x y = through (suc k) (joined k e) x y
