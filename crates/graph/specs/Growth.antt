-- More marks, and fewer live literals (meaning). Rests on Marks.
use Rattle.std.specs.Prelude.{◌≡◌, ℕ, Bool, true, List}
use Rattle.formula.specs.Decided.{Less}
use Rattle.formula.specs.Tree.{Tree}
use Rattle.formula.specs.declared.literal.Literal.{Literal}
use Rattle.formula.specs.declared.node.Pair.{Pair}
use Rattle.graph.specs.Marks.{Marks, idle, value, live, dashed, solid}

-- what is marked stays marked
abbrev pub Grown : Marks → Marks → Type 0
Grown m m' = (s : Bool) (a b : ℕ) → idle m s a b ≡ true → idle m' s a b ≡ true

-- what is decided stays as it is, and live, dashed and solid only shrink
pub record Fewer (m m' : Marks) : Type 0 where
  pub stays : (t : Tree Literal) → Less (value m t) (value m' t)
  pub lives : (t : Tree Literal) (s : Bool) (a b : ℕ) → live m' t s a b ≡ true → live m t s a b ≡ true
  pub dashes : (fs : List (Tree (Pair ℕ))) (a b : ℕ) → dashed fs m' a b ≡ true → dashed fs m a b ≡ true
  pub solids : (fs : List (Tree (Pair ℕ))) (a b : ℕ) → solid fs m' a b ≡ true → solid fs m a b ≡ true
