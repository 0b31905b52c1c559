-- When rounds end, and what set a mark (meaning). Rests on Rounds, Growth and Reasons.
use Rattle.std.specs.Prelude.{◌≡◌, ℕ, suc, ◌*◌, ◌<◌, ◌≤◌, Bool, true, false, List}
use Rattle.formula.specs.Tree.{Tree}
use Rattle.formula.specs.declared.node.Pair.{Pair}
use Rattle.graph.specs.Growth.{Grown}
use Rattle.graph.specs.Marks.{Marks, idle, dashed, solid}
use Rattle.graph.specs.Reasons.{Reason}
use Rattle.graph.specs.Rounds.{round, rounds, marked}

-- a mark was set, with its reason, by one of the first k rounds: the one after `at` rounds, on the marks before it
pub record MarkedBy (n : ℕ) (fs : List (Tree (Pair ℕ))) (k : ℕ) (sign : Bool) (a b : ℕ) : Type 0 where
  pub at : ℕ
  pub before : at < k
  pub unset : idle (rounds at n fs) sign a b ≡ false
  pub set : idle (rounds (suc at) n fs) sign a b ≡ true
  pub why : Reason (dashed fs (rounds at n fs)) (solid fs (rounds at n fs)) sign a b

-- a round marks nothing
abbrev pub Settled : ℕ → List (Tree (Pair ℕ)) → Marks → Type 0
Settled n fs m = Grown (round n fs m) m

-- The rounds end at the first round that marks nothing, the one after `at` rounds. The marks there stay as they are and are the marks at the end; and wherever
-- a round marks nothing, the marks are those.
pub record Ends (n : ℕ) (fs : List (Tree (Pair ℕ))) : Type 0 where
  pub at : ℕ
  pub soon : at ≤ n * (n * 2)
  pub nothing : Settled n fs (rounds at n fs)
  pub first : (j : ℕ) → j < at → Settled n fs (rounds j n fs) → ⊥
  pub later : (j : ℕ) → at ≤ j → rounds j n fs ≡ rounds at n fs
  pub end : marked n fs ≡ rounds at n fs
  pub wherever : (j : ℕ) → Settled n fs (rounds j n fs) → rounds j n fs ≡ marked n fs
