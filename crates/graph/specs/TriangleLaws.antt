-- Why triangles suffice in a filled graph (statements). Rests on Triangles, Chains and Filled.
use Rattle.std.specs.Prelude.{◌≡◌, ℕ, Bool, true, ◌&&◌, ◌≢◌, List, ◌∷◌}
use Rattle.formula.specs.Tree.{Tree}
use Rattle.formula.specs.declared.node.Pair.{Pair}
use Rattle.graph.specs.Chains.{Path}
use Rattle.graph.specs.Filled.{Filled, NamesStanding}
use Rattle.graph.specs.Filling.{Pick, links}
use Rattle.graph.specs.InForce.{of_lots}
use Rattle.graph.specs.Lots.{has, Simple, Inside}
use Rattle.graph.specs.Pairs.{Symmetric}
use Rattle.graph.specs.Triangles.{Triangle, Concluding, ConditionsWanted, Obeyed}

-- a path of two or more steps whose ends are linked has an inner lot that is linked with both
abbrev pub InnerSeesEnds : Type 0
InnerSeesEnds =
    (linked : ℕ → ℕ → Bool) → Symmetric linked → (order : List ℕ) → Filled linked order
    → (x y p : ℕ) (ps : List ℕ) → Inside (x ∷ p ∷ ps) order → Path linked y x (p ∷ ps) → Simple (x ∷ p ∷ ps) → p ≢ y → linked x y ≡ true
    → (q : ℕ) × (has q (p ∷ ps) ≡ true) × (q ≢ y) × (linked x q ≡ true) × (linked q y ≡ true)

-- Triangles suffice. In a filled graph let u and v be linked, and let the wanted pairs hold their pair and the conditions of every triangle that concludes a wanted
-- pair without that pair among its conditions. Where the values obey those triangles, and a simple path of true linked pairs joins u and v, their pair is true.
abbrev pub TrianglesSuffice : Type 0
TrianglesSuffice =
    (linked value wanted : ℕ → ℕ → Bool) → Symmetric linked → (order : List ℕ) → Filled linked order
    → (u v : ℕ) → u ≢ v → linked u v ≡ true → wanted u v ≡ true
    → Concluding linked wanted u v (ConditionsWanted wanted)
    → Concluding linked wanted u v (Obeyed value)
    → (ps : List ℕ) → Inside (u ∷ ps) order → Path (λ a b. linked a b && value a b) v u ps → Simple (u ∷ ps)
    → value u v ≡ true

-- so where all triangles are obeyed
abbrev pub AllTrianglesSuffice : Type 0
AllTrianglesSuffice =
    (linked value : ℕ → ℕ → Bool) → Symmetric linked → (order : List ℕ) → Filled linked order
    → ((a b c : ℕ) → Triangle linked a b c → Obeyed value a b c)
    → (u v : ℕ) → u ≢ v → linked u v ≡ true
    → (ps : List ℕ) → Inside (u ∷ ps) order → Path (λ a b. linked a b && value a b) v u ps → Simple (u ∷ ps)
    → value u v ≡ true

-- So it is with the links of the formulas in force, whatever the picker: every path of them lies in the order of elimination.
abbrev pub LinksSuffice : Type 0
LinksSuffice =
    (n : ℕ) (fs : List (Tree (Pair ℕ))) → of_lots n fs ≡ true → (pick : Pick) → NamesStanding pick → (value wanted : ℕ → ℕ → Bool)
    → (u v : ℕ) → links n fs pick u v ≡ true → wanted u v ≡ true
    → Concluding (links n fs pick) wanted u v (ConditionsWanted wanted)
    → Concluding (links n fs pick) wanted u v (Obeyed value)
    → (ps : List ℕ) → Path (λ a b. links n fs pick a b && value a b) v u ps → Simple (u ∷ ps)
    → value u v ≡ true
