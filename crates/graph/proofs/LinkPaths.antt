-- Triangles suffice for the links of the formulas in force.
use Rattle.std.proofs.Common.{arith, ◌≡◌, ℕ, Bool, true, ◌&&◌, List, [], ◌∷◌}
use Rattle.std.proofs.lemmas.Bool.Decides.{nat_tests}
use Rattle.graph.specs.Chains.{Path}
use Rattle.graph.specs.Filling.{links, order}
use Rattle.graph.specs.Lots.{Lot, has, Inside}
use Rattle.graph.specs.Pairs.{OfPairs}
use Rattle.graph.specs.TriangleLaws.{LinksSuffice}
use Rattle.graph.proofs.Links.{links_are_filled}
use Rattle.graph.proofs.Triangles.{triangles_suffice}

-- a path of links stays among the lots of the order
module _ (n : ℕ) (linked value : ℕ → ℕ → Bool) (o : OfPairs n linked) (order : List ℕ) (every : (x : ℕ) → Lot n x → has x order ≡ true) where
  inside : (y x : ℕ) (ps : List ℕ) → Lot n x → Path (λ a b. linked a b && value a b) y x ps → Inside (x ∷ ps) order
  inside y x [] l r z h = grind (arith, nat_tests, every x l)
  inside y x (p ∷ ps) l r z h =
      let step = o.lots x p (grind (arith, nat_tests, r.0)) in
      grind (arith, nat_tests, every x l, inside y p ps step.1 r.1 z)

pub links_suffice : LinksSuffice
links_suffice n fs g pick names value wanted u v l w conditions obeyed ps r s =
    let f = links_are_filled n fs g pick names in
    let o = f.pairs in
    triangles_suffice (links n fs pick) value wanted o.turns (order n fs pick) f.filled u v
    (λ e. grind (arith, nat_tests, o.own u))
    l w conditions obeyed ps (inside n (links n fs pick) value o (order n fs pick) f.every v u ps (o.lots u v l).0 r) r s
