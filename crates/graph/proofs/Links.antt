-- The links of the formulas in force.
use Rattle.std.proofs.lemmas.Bool.Decides.{nat_tests}
use Rattle.std.proofs.Common.{not, ◌≡◌, ℕ, zero, suc, ◌+◌, ◌≤◌, Bool, true, false, eqb, List, [], ◌∷◌, length, refl, ap, ◌∙◌, arith}
use Rattle.std.specs.List.{range_with_len}
use Rattle.std.proofs.lemmas.List.FromFn.{length-range_with_len}
use Rattle.std.proofs.lemmas.Bool.{cond_both, or_left, or_right}
use Rattle.formula.specs.declared.node.Pair.{Pair}
use Rattle.formula.specs.Tree.{Tree}
use Rattle.graph.specs.Filled.{Agree, Rising}
use Rattle.graph.specs.Filling.{closed, taken_out, Pick, stages, start}
use Rattle.graph.specs.FillingLaws.{LinksAreFilled, LinksByPicks, StandingRises}
use Rattle.graph.specs.InForce.{of_lots}
use Rattle.graph.specs.Lots.{Lot, lots, has, without}
use Rattle.graph.specs.Marks.{dashed, solid}
use Rattle.graph.specs.Pairs.{OfPairs}
use Rattle.graph.specs.Rounds.{marked}
use Rattle.graph.proofs.Closing.{closed_pairs}
use Rattle.graph.proofs.Filling.{at, stages_more, stages_pairs, named_stood, all_named, named_once, none_left, filled, origin}
use Rattle.graph.proofs.LivePairs.{of_pairs}
use Rattle.graph.proofs.Members.{lots_have, has_lots, without_has, counting_has}
use Rattle.graph.proofs.PairTests.{either_pairs}

pub start_pairs : (n : ℕ) (fs : List (Tree (Pair ℕ))) → of_lots n fs ≡ true → OfPairs n (start n fs).linked
start_pairs n fs g = either_pairs n (dashed fs (marked n fs)) (solid fs (marked n fs)) (of_pairs n fs g (marked n fs) true) (of_pairs n fs g (marked n fs) false)

pub links_are_filled : LinksAreFilled
links_are_filled n fs g pick names =
    let e : ℕ → ℕ → Bool = (start n fs).linked in
    let m = marked n fs in
    let all : length (lots n) ≤ n = omega (arith, length-range_with_len 1 n) in
    record {
      every = λ x l. all_named pick names n (lots n) e all x (lots_have n x l);
      lots = λ x h. has_lots n x (named_stood pick names n (lots n) e x h);
      once = named_once pick names n (lots n) e;
      none_stands = none_left pick names n (lots n) e all;
      filled = filled pick names n (lots n) e;
      pairs = stages_pairs pick n n (lots n) e (has_lots n) (start_pairs n fs g);
      dashes = λ x y h. stages_more pick n (lots n) e x y (or_left (dashed fs m x y) (solid fs m x y) h);
      solids = λ x y h. stages_more pick n (lots n) e x y (or_right (dashed fs m x y) (solid fs m x y) h);
      origin = λ x y h. grind (arith, nat_tests, origin pick names n (lots n) e x y h);
    }

-- pickers that agree where they are asked
module _ (n : ℕ) (pick other : Pick) (agree : Agree n pick other) where
  same_stages : (k : ℕ) (st : List ℕ) (e : ℕ → ℕ → Bool) → ((z : ℕ) → has z st ≡ true → Lot n z) → OfPairs n e → stages k pick (at st e) ≡ stages k other (at st e)
  same_stages zero st e l o = refl
  same_stages (suc k) [] e l o = same_stages k [] e l o
  same_stages (suc k) (s ∷ rest) e l o =
      let v : ℕ = pick (s ∷ rest) e in
      let st : List ℕ = without v (s ∷ rest) in
      let l' : (z : ℕ) → has z st ≡ true → Lot n z = λ z h. l z (without_has v z (s ∷ rest) h) in
      same_stages k st (closed v st e) l' (closed_pairs v st e n o l')
      ∙ ap (λ w. stages k other (taken_out w (s ∷ rest) e)) (agree s rest e l o)

pub links_by_picks : LinksByPicks
links_by_picks n fs g pick other agree = ap (λ s. s.linked) (same_stages n pick other agree n (lots n) (start n fs).linked (has_lots n) (start_pairs n fs g))

-- the standing lots rise
rising_without : (v : ℕ) (xs : List ℕ) → Rising xs → Rising (without v xs)
rising_without v [] r = tt
rising_without v (x ∷ xs) r = cond_both (not (eqb v x)) (x ∷ without v xs) (without v xs) Rising
    (λ p. (λ z h. r.0 z (without_has v z xs h), rising_without v xs r.1)) (λ p. rising_without v xs r.1)

rising_counting : (n a : ℕ) → Rising (range_with_len a n)
rising_counting zero a = tt
rising_counting (suc n) a = (λ z h. let l = (counting_has n (a + 1) z h).0 in omega arith, rising_counting n (a + 1))

rising_stages : (pick : Pick) (k : ℕ) (st : List ℕ) (e : ℕ → ℕ → Bool) → Rising st → Rising (stages k pick (at st e)).standing
rising_stages pick zero st e r = r
rising_stages pick (suc k) [] e r = rising_stages pick k [] e r
rising_stages pick (suc k) (s ∷ rest) e r =
    let v : ℕ = pick (s ∷ rest) e in
    rising_stages pick k (without v (s ∷ rest)) (closed v (without v (s ∷ rest)) e) (rising_without v (s ∷ rest) r)

pub standing_rises : StandingRises
standing_rises n fs pick k = rising_stages pick k (lots n) (start n fs).linked (rising_counting n 1)
