-- In a filled graph, a path whose ends are linked has an inner lot that is linked with both.
use Rattle.std.proofs.lemmas.Bool.Decides.{nat_tests}
use Rattle.std.proofs.Common.{not, arith, ◌≡◌, ℕ, Bool, true, eqb, ◌≢◌, List, [], ◌∷◌, sym, subst, ⊎_elim}
use Rattle.std.proofs.lemmas.Bool.{false≢true, cases_eq, cond_both}
use Rattle.graph.specs.Chains.{Path}
use Rattle.graph.specs.Filled.{Filled}
use Rattle.graph.specs.Lots.{has, without, Simple, Inside}
use Rattle.graph.proofs.Members.{has_first, has_next, not_without, without_has, absent, without_none, simple_without}
use Rattle.graph.specs.Pairs.{Symmetric}
use Rattle.graph.specs.TriangleLaws.{InnerSeesEnds}
use Rattle.graph.proofs.Paths.{ends, last_step}

module _ (linked : ℕ → ℕ → Bool) (turns : Symmetric linked) where
  -- an inner lot that is linked with both ends
  abbrev Sight : ℕ → ℕ → List ℕ → Type 0
  Sight x y ps = (q : ℕ) × (has q ps ≡ true) × (q ≢ y) × (linked x q ≡ true) × (linked q y ≡ true)

  abbrev Seen : List ℕ → Type 0
  Seen order =
      (x y p : ℕ) (ps : List ℕ) → Inside (x ∷ p ∷ ps) order → Path linked y x (p ∷ ps) → Simple (x ∷ p ∷ ps) → p ≢ y → linked x y ≡ true → Sight x y (p ∷ ps)

  -- v is taken out first
  module _ (v : ℕ) (rest : List ℕ)
      (fill : (x y : ℕ) → has x rest ≡ true → has y rest ≡ true → x ≢ y → linked v x ≡ true → linked v y ≡ true → linked x y ≡ true) where
    -- a path over v goes on without it
    over : (y z b : ℕ) (bs : List ℕ) → z ≢ v → Path linked y z (v ∷ b ∷ bs) → Simple (z ∷ v ∷ b ∷ bs) → Inside (z ∷ v ∷ b ∷ bs) (v ∷ rest) → Path linked y z (b ∷ bs)
    over y z b bs zv r s i = grind (arith, nat_tests)

    step_over : (y z : ℕ) (ps : List ℕ) → y ≢ v → z ≢ v → Path linked y z (v ∷ ps) → Simple (z ∷ v ∷ ps) → Inside (z ∷ v ∷ ps) (v ∷ rest) → Path linked y z (without v ps)
    step_over y z [] yv zv r s i = absurd (yv (sym r.1))
    step_over y z (b ∷ bs) yv zv r s i = subst (Path linked y z) (sym (without_none v (b ∷ bs) s.1.0)) (over y z b bs zv r s i)

    avoid : (y z : ℕ) (ps : List ℕ) → y ≢ v → z ≢ v → Path linked y z ps → Simple (z ∷ ps) → Inside (z ∷ ps) (v ∷ rest) → Path linked y z (without v ps)
    avoid y z [] yv zv r s i = r
    avoid y z (p ∷ ps) yv zv r s i = cond_both (not (eqb v p)) (p ∷ without v ps) (without v ps) (Path linked y z)
        (λ e. (r.0, avoid y p ps yv (λ k. grind (arith, nat_tests)) r.1 s.1 (λ w k. i w (has_next z w (p ∷ ps) k))))
        (λ e. let pv : p ≡ v = grind (arith, nat_tests) in
        step_over y z ps yv zv (subst (λ w. Path linked y z (w ∷ ps)) pv r) (subst (λ w. Simple (z ∷ w ∷ ps)) pv s) (subst (λ w. Inside (z ∷ w ∷ ps) (v ∷ rest)) pv i))

    -- a path that begins with a step to v
    through : Seen rest → (x y p : ℕ) (ps : List ℕ) → p ≡ v → x ≢ v → y ≢ v → linked x y ≡ true
        → Path linked y x (v ∷ ps) → Simple (x ∷ v ∷ ps) → Inside (x ∷ v ∷ ps) (v ∷ rest) → Sight x y (p ∷ ps)
    through ih x y p [] pv xv yv l r s i = absurd (yv (sym r.1))
    through ih x y p (b ∷ bs) pv xv yv l r s i = ⊎_elim
        (λ e. (p, has_first p (b ∷ bs), grind (arith, nat_tests), grind (arith, nat_tests), grind (arith, nat_tests)))
        (λ e.
        let i' : Inside (x ∷ b ∷ bs) rest = λ z h. grind (arith, nat_tests, i z) in
        let (q, hq, qy, lx, lq) = ih x y b bs i' (over y x b bs xv r s i) (grind (arith, nat_tests), s.1.1) e l in
        (q, has_next p q (b ∷ bs) hq, qy, lx, lq))
        (cases_eq b y)

  pub sees : (order : List ℕ) → Filled linked order → Seen order
  sees [] al x y p ps i r s py l = absurd (false≢true (i x (has_first x (p ∷ ps))))
  sees (v ∷ rest) al x y p ps i r s py l =
      let hy : has y (p ∷ ps) ≡ true = ends linked y x p ps r in
      ⊎_elim
      (λ xv. (p, has_first p ps, py, r.0, grind (arith, nat_tests, al.0 p y, i p, i y)))
      (λ xv. ⊎_elim
      (λ yv. let (z, hz, zy, lz) = last_step linked y x p ps r py in (z, hz, zy, grind (arith, nat_tests, al.0 x z, i x, i z, turns y x, turns y z), lz))
      (λ yv. ⊎_elim
      (λ pv. through v rest al.0 (sees rest al.1) x y p ps pv xv yv l
      (subst (λ w. Path linked y x (w ∷ ps)) pv r) (subst (λ w. Simple (x ∷ w ∷ ps)) pv s) (subst (λ w. Inside (x ∷ w ∷ ps) (v ∷ rest)) pv i))
      (λ pv.
      let r' = avoid v rest al.0 y p ps yv pv r.1 s.1 (λ w k. i w (has_next x w (p ∷ ps) k)) in
      let i' : Inside (x ∷ p ∷ without v ps) rest = λ z h. grind (arith, nat_tests, i z, without_has v z ps, not_without v ps) in
      let s' : Simple (x ∷ p ∷ without v ps) = (grind (arith, nat_tests, without_has v x ps), (absent v p ps s.1.0, simple_without v ps s.1.1)) in
      let (q, hq, qy, lx, lq) = sees rest al.1 x y p (without v ps) i' (r.0, r') s' py l in
      (q, grind (arith, nat_tests, without_has v q ps), qy, lx, lq))
      (cases_eq p v))
      (cases_eq y v))
      (cases_eq x v)

pub inner_sees_ends : InnerSeesEnds
inner_sees_ends linked turns order al = sees linked turns order al
