-- Rounds of marks (executable). Rests on Marks, Joined and Lots.
use Rattle.std.specs.Prelude.{ℕ, zero, suc, ◌*◌, Bool, true, false, not, ◌&&◌, ◌||◌, List}
use Rattle.formula.specs.Tree.{Tree}
use Rattle.formula.specs.declared.node.Pair.{Pair}
use Rattle.graph.specs.Joined.{joined}
use Rattle.graph.specs.Lots.{some}
use Rattle.graph.specs.Marks.{Marks, unmarked, dashed, solid}

-- of n lots with dashed pairs d and solid pairs s: some solid pair lies inside the component of a
abbrev pub crossed : ℕ → (ℕ → ℕ → Bool) → (ℕ → ℕ → Bool) → ℕ → Bool
crossed n d s a = some n (λ x. some n (λ y. s x y && (joined n d a x && joined n d a y)))

-- The reason for marking the literal of a sign on a pair: the positive one when the pair is dashed and no solid pair lies inside its component, the negative one
-- when the pair is solid and its lots lie in different components.
abbrev pub reason : ℕ → (ℕ → ℕ → Bool) → (ℕ → ℕ → Bool) → Bool → ℕ → ℕ → Bool
reason n d s true a b = d a b && not (crossed n d s a)
reason n d s false a b = s a b && not (joined n d a b)

-- one round marks, all at once, every literal that there is a reason to mark by the marks before it; marks stay
abbrev pub round : ℕ → List (Tree (Pair ℕ)) → Marks → Marks
round n fs m = record {
  positive = λ a b. m.positive a b || reason n (dashed fs m) (solid fs m) true a b;
  negative = λ a b. m.negative a b || reason n (dashed fs m) (solid fs m) false a b;
}

-- the marks after so many rounds
abbrev pub rounds : ℕ → ℕ → List (Tree (Pair ℕ)) → Marks
rounds zero n fs = unmarked
rounds (suc k) n fs = round n fs (rounds k n fs)

-- The marks at the end. Rounds go on until one marks nothing: there are fewer than 2n² literals to mark, each round before that marks one, and a round after it
-- marks nothing either, so 2n² rounds come to the same.
abbrev pub marked : ℕ → List (Tree (Pair ℕ)) → Marks
marked n fs = rounds (n * (n * 2)) n fs
