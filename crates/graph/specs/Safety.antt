-- When it is safe to take idle literals as yes (meaning). Rests on Marks and Chains.
use Rattle.std.specs.Prelude.{◌≡◌, ℕ, Bool, true, false, ◌||◌, List, ◌∷◌}
use Rattle.formula.specs.Tree.{Tree}
use Rattle.formula.specs.declared.node.Pair.{Pair}
use Rattle.graph.specs.Chains.{Path}
use Rattle.graph.specs.Lots.{Simple}
use Rattle.graph.specs.Marks.{Marks, dashed, solid}

-- the pairs that can bring lots together: idle positive, or dashed
abbrev pub bonds : List (Tree (Pair ℕ)) → Marks → ℕ → ℕ → Bool
bonds fs m a b = m.positive a b || dashed fs m a b

-- No simple chain of bonds joins the lots of an idle negative pair, and one between the lots of a solid pair has dashed pairs only. A pair that is idle positive
-- is not dashed, one that is idle negative is not solid.
pub record Safe (fs : List (Tree (Pair ℕ))) (m : Marks) : Type 0 where
  pub apart : (x y : ℕ) (ps : List ℕ) → m.negative x y ≡ true → Path (bonds fs m) y x ps → Simple (x ∷ ps) → ⊥
  pub bare : (x y : ℕ) (ps : List ℕ) → solid fs m x y ≡ true → Path (bonds fs m) y x ps → Simple (x ∷ ps) → Path (dashed fs m) y x ps
  pub not_dashed : (x y : ℕ) → m.positive x y ≡ true → dashed fs m x y ≡ false
  pub not_solid : (x y : ℕ) → m.negative x y ≡ true → solid fs m x y ≡ false
