-- Triangles suffice in a filled graph: both halves of a path with linked ends are shorter, have linked ends, and do not hold both lots of the pair asked for.
use Rattle.std.proofs.lemmas.Bool.Decides.{nat_tests}
use Rattle.std.proofs.Common.{◌≡◌, ℕ, zero, suc, ◌<◌, ◌≤◌, Bool, true, false, ◌&&◌, ◌≢◌, List, [], ◌∷◌, length, refl, ⊎_elim, arith}
use Rattle.std.proofs.lemmas.Bool.{cases_eq}
use Rattle.graph.specs.Chains.{Path}
use Rattle.graph.specs.Filled.{Filled}
use Rattle.graph.specs.Filling.{order}
use Rattle.graph.specs.Lots.{has, Simple, Inside}
use Rattle.graph.proofs.Members.{has_first, has_next}
use Rattle.graph.specs.Pairs.{same_pair, Symmetric}
use Rattle.graph.specs.TriangleLaws.{TrianglesSuffice, AllTrianglesSuffice}
use Rattle.graph.specs.Triangles.{Triangle, Concluding, ConditionsWanted, Obeyed}
use Rattle.graph.proofs.Paths.{ends, over, Cut, cut}
use Rattle.graph.proofs.Sights.{sees}

not_empty : (e : ℕ → ℕ → Bool) (y q : ℕ) (cs : List ℕ) → Path e y q cs → q ≢ y → (0 < length cs) × (has y cs ≡ true)
not_empty e y q [] r ne = absurd (ne r)
not_empty e y q (c ∷ cs) r ne = (omega arith, ends e y q c cs r)

module _ (linked value wanted : ℕ → ℕ → Bool) (turns : Symmetric linked) (order : List ℕ) (al : Filled linked order)
    (u v : ℕ) (conditions : Concluding linked wanted u v (ConditionsWanted wanted)) (obeyed : Concluding linked wanted u v (Obeyed value)) where
  abbrev true_link : ℕ → ℕ → Bool
  true_link a b = linked a b && value a b

  -- not both lots of the pair stand in a list
  abbrev Misses : List ℕ → Type 0
  Misses ps = has u ps ≡ true → has v ps ≡ true → ⊥

  missed : (a b : ℕ) (ps : List ℕ) → Misses ps → has a ps ≡ true → has b ps ≡ true → same_pair a b u v ≡ false
  missed a b ps m ha hb = grind (arith, nat_tests)

  -- a path whose ends are linked, wanted and different, cut at an inner lot that is linked with both
  record Halves (x y : ℕ) (ps : List ℕ) : Type 0 where
    middle : ℕ
    within : has middle ps ≡ true
    halves : Cut true_link y x middle ps
    triangle : Triangle linked x middle y
    end : has y halves.rest ≡ true
    more : 0 < length halves.rest

  halve : (x y p : ℕ) (ps : List ℕ) → Inside (x ∷ p ∷ ps) order → Path true_link y x (p ∷ ps) → Simple (x ∷ p ∷ ps) → p ≢ y → x ≢ y → linked x y ≡ true → Halves x y (p ∷ ps)
  halve x y p ps i r s py ne l =
      let (q, hq, qy, lx, lq) = sees linked turns order al x y p ps i (over true_link linked (λ a b h. grind (arith, nat_tests)) y x (p ∷ ps) r) s py l in
      let c = cut true_link y x q (p ∷ ps) r s.1 hq in
      let (m, e) = not_empty true_link y q c.rest c.from qy in
      record {
        middle = q;
        within = hq;
        halves = c;
        triangle = record { ab = λ t. grind (arith, nat_tests); bc = qy; ac = ne; linked_ab = lx; linked_bc = lq; linked_ac = l };
        end = e;
        more = m;
      }

  -- the first half and the second, as paths of their own
  front_inside : (x y : ℕ) (ps : List ℕ) (h : Halves x y ps) → Inside (x ∷ h.halves.front) (x ∷ ps)
  front_inside x y ps h z k = grind (arith, nat_tests)

  rest_inside : (x y : ℕ) (ps : List ℕ) (h : Halves x y ps) → Inside (h.middle ∷ h.halves.rest) ps
  rest_inside x y ps h z k = grind (arith, nat_tests)

  front_simple : (x y : ℕ) (ps : List ℕ) (h : Halves x y ps) → Simple (x ∷ ps) → Simple (x ∷ h.halves.front)
  front_simple x y ps h s = grind (arith, nat_tests)

  -- the triangle of a path's halves that miss the pair concludes the pair of its ends, from what holds of both halves
  concluded : (x y : ℕ) (ps : List ℕ) (h : Halves x y ps) → wanted x y ≡ true → Misses (x ∷ h.halves.front) → Misses (h.middle ∷ h.halves.rest)
      → (wanted x h.middle ≡ true → value x h.middle ≡ true) → (wanted h.middle y ≡ true → value h.middle y ≡ true) → value x y ≡ true
  concluded x y ps h w front_misses rest_misses front rest =
      let q : ℕ = h.middle in
      let c : Cut true_link y x q ps = h.halves in
      let nx = missed x q (x ∷ c.front) front_misses (has_first x c.front) (has_next x q c.front (front_last q x c.front c.to c.some)) in
      let ny = missed q y (q ∷ c.rest) rest_misses (has_first q c.rest) (has_next q y c.rest h.end) in
      let (wx, wy) = conditions x q y h.triangle w nx ny in
      obeyed x q y h.triangle w nx ny (front wx) (rest wy)
    where
      front_last : (q x : ℕ) (bs : List ℕ) → Path true_link q x bs → 0 < length bs → has q bs ≡ true
      front_last q x [] r l = absurd (omega arith)
      front_last q x (b ∷ bs) r l = ends true_link q x b bs r

  -- a path that misses the pair
  misses : (k x y : ℕ) (ps : List ℕ) → length ps ≤ k → Inside (x ∷ ps) order → Path true_link y x ps → Simple (x ∷ ps) → Misses (x ∷ ps)
      → x ≢ y → linked x y ≡ true → wanted x y ≡ true → value x y ≡ true
  misses k x y [] b i r s m ne l w = absurd (ne r)
  misses zero x y (p ∷ ps) b i r s m ne l w = absurd (omega arith)
  misses (suc k) x y (p ∷ ps) b i r s m ne l w = ⊎_elim
      (λ e. grind (arith, nat_tests))
      (λ e.
      let h = halve x y p ps i r s e ne l in
      let q : ℕ = h.middle in
      let c : Cut true_link y x q (p ∷ ps) = h.halves in
      let t = h.triangle in
      let fi = front_inside x y (p ∷ ps) h in
      let ri : Inside (q ∷ c.rest) (x ∷ p ∷ ps) = λ z j. has_next x z (p ∷ ps) (rest_inside x y (p ∷ ps) h z j) in
      let fm : Misses (x ∷ c.front) = λ a d. m (fi u a) (fi v d) in
      let rm : Misses (q ∷ c.rest) = λ a d. m (ri u a) (ri v d) in
      let n = c.lengths in let o = c.some in let j = h.more in
      concluded x y (p ∷ ps) h w fm rm
      (misses k x q c.front (omega arith) (λ z a. i z (fi z a)) c.to (front_simple x y (p ∷ ps) h s) fm t.ab t.linked_ab)
      (misses k q y c.rest (omega arith) (λ z a. i z (ri z a)) c.from c.rest_simple rm t.bc t.linked_bc))
      (cases_eq p y)

  -- the path from u to v: its halves miss the pair
  whole : (p : ℕ) (ps : List ℕ) → Inside (u ∷ p ∷ ps) order → Path true_link v u (p ∷ ps) → Simple (u ∷ p ∷ ps) → u ≢ v → linked u v ≡ true → wanted u v ≡ true → value u v ≡ true
  whole p ps i r s ne l w = ⊎_elim
      (λ e. grind (arith, nat_tests))
      (λ e.
      let h = halve u v p ps i r s e ne l in
      let q : ℕ = h.middle in
      let c : Cut true_link v u q (p ∷ ps) = h.halves in
      let t = h.triangle in
      let fi = front_inside u v (p ∷ ps) h in
      let ri = rest_inside u v (p ∷ ps) h in
      let fm : Misses (u ∷ c.front) = λ a d. grind (arith, nat_tests, c.apart v, h.end) in
      let rm : Misses (q ∷ c.rest) = λ a d. grind (arith, nat_tests, ri u a) in
      concluded u v (p ∷ ps) h w fm rm
      (misses (length c.front) u q c.front (omega arith) (λ z a. i z (fi z a)) c.to (front_simple u v (p ∷ ps) h s) fm t.ab t.linked_ab)
      (misses (length c.rest) q v c.rest (omega arith) (λ z a. i z (has_next u z (p ∷ ps) (ri z a))) c.from c.rest_simple rm t.bc t.linked_bc))
      (cases_eq p v)

pub triangles_suffice : TrianglesSuffice
triangles_suffice linked value wanted turns order al u v ne l w conditions obeyed [] i r s = absurd (ne r)
triangles_suffice linked value wanted turns order al u v ne l w conditions obeyed (p ∷ ps) i r s =
    whole linked value wanted turns order al u v conditions obeyed p ps i r s ne l w

pub all_triangles_suffice : AllTrianglesSuffice
all_triangles_suffice linked value turns order al obeyed u v ne l =
    triangles_suffice linked value (λ a b. true) turns order al u v ne l refl (λ a b c t w x y. (refl, refl)) (λ a b c t w x y. obeyed a b c t)
