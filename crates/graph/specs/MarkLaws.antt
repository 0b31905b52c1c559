-- What holds of live literals, and what more marks do (statements). Rests on Live, Growth and Marks.
use Rattle.std.specs.Prelude.{◌≡◌, ℕ, Bool, true, List}
use Rattle.formula.specs.Tree.{Tree}
use Rattle.formula.specs.declared.literal.Literal.{Literal}
use Rattle.formula.specs.declared.node.Pair.{Pair}
use Rattle.graph.specs.Growth.{Grown, Fewer}
use Rattle.graph.specs.InForce.{of_lots}
use Rattle.graph.specs.Live.{LiveLiteral}
use Rattle.graph.specs.Marks.{Marks, live, dashed, solid}
use Rattle.graph.specs.Pairs.{OfPairs}

-- The test for a live literal is exact.
abbrev pub LiveIsLive : Type 0
LiveIsLive =
    (m : Marks) (top : Tree Literal) (s : Bool) (a b : ℕ)
    → (live m top s a b ≡ true → LiveLiteral m top s a b) × (LiveLiteral m top s a b → live m top s a b ≡ true)

-- With more marks, what is decided stays as it is, and live, dashed and solid only shrink.
abbrev pub MoreMarksFewerLive : Type 0
MoreMarksFewerLive = (m m' : Marks) → Grown m m' → Fewer m m'

-- Under any marks, dashed and solid are tests of the pairs of the lots.
abbrev pub LivePairs : Type 0
LivePairs = (n : ℕ) (fs : List (Tree (Pair ℕ))) → of_lots n fs ≡ true → (m : Marks) → OfPairs n (dashed fs m) × OfPairs n (solid fs m)
