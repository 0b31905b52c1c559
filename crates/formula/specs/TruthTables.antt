-- The truth tables of the words, in both scales (statements). Rests on Truth and Scales.
use Rattle.std.specs.Prelude.{◌≡◌, ℕ, Bool, true, false, List, [], ◌∷◌}
use Rattle.formula.specs.declared.scale.Three.{Three}
use Rattle.formula.specs.declared.scale.Three.TheVariants.{Yes, No, Open}
use Rattle.formula.specs.Ops.{Ops}
use Rattle.formula.specs.Scales.{two, three}
use Rattle.formula.specs.Tree.{Tree, leaf, not, and, or, then}
use Rattle.formula.specs.Truth.{truth}

-- the truth of a word over two leaves with these truths
abbrev pub of_two : {S : Type 0} → Ops S → (ℕ → Tree S → Tree S → Tree S) → S → S → S
of_two o word x y = truth o (λ z. z) (word 0 (leaf x) (leaf y))

-- and of `not` over one
abbrev pub of_not : {S : Type 0} → Ops S → S → S
of_not o x = truth o (λ z. z) (not 0 (leaf x))

-- a table, row by row: the left part first yes, then no, then open; the right part likewise within each row
abbrev pub two_rows : (Bool → Bool → Bool) → List Bool
two_rows f = f true true ∷ f true false ∷ f false true ∷ f false false ∷ []

abbrev pub three_rows : (Three → Three → Three) → List Three
three_rows f = f Yes Yes ∷ f Yes No ∷ f Yes Open ∷ f No Yes ∷ f No No ∷ f No Open ∷ f Open Yes ∷ f Open No ∷ f Open Open ∷ []

-- the tables
pub record TruthTables : Type 0 where
  pub two_not : of_not two true ∷ of_not two false ∷ [] ≡ false ∷ true ∷ []
  pub two_and : two_rows (of_two two and) ≡ true ∷ false ∷ false ∷ false ∷ []
  pub two_or : two_rows (of_two two or) ≡ true ∷ true ∷ true ∷ false ∷ []
  pub two_then : two_rows (of_two two then) ≡ true ∷ false ∷ true ∷ true ∷ []
  pub three_not : of_not three Yes ∷ of_not three No ∷ of_not three Open ∷ [] ≡ No ∷ Yes ∷ Open ∷ []
  pub three_and : three_rows (of_two three and) ≡ Yes ∷ No ∷ Open ∷ No ∷ No ∷ No ∷ Open ∷ No ∷ Open ∷ []
  pub three_or : three_rows (of_two three or) ≡ Yes ∷ Yes ∷ Yes ∷ Yes ∷ No ∷ Open ∷ Yes ∷ Open ∷ Open ∷ []
  pub three_then : three_rows (of_two three then) ≡ Yes ∷ No ∷ Open ∷ Yes ∷ Yes ∷ Yes ∷ Yes ∷ Open ∷ Open ∷ []
