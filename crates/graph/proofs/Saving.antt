-- Idle literals are safe after any number of rounds.
use Rattle.std.proofs.lemmas.Bool.Decides.{nat_tests}
use Rattle.std.proofs.Common.{arith, ◌≡◌, ℕ, zero, suc, ◌*◌, Bool, true, false, List, [], ◌∷◌, ⊎_elim}
use Rattle.std.proofs.lemmas.Bool.{both_ways, false≢true, or_cases}
use Rattle.formula.specs.declared.node.Pair.{Pair}
use Rattle.formula.specs.Tree.{Tree}
use Rattle.graph.specs.Chains.{Chain, stop, step, Path}
use Rattle.graph.specs.Growth.{Fewer}
use Rattle.graph.specs.InForce.{of_lots}
use Rattle.graph.specs.Marks.{Marks, idle, unmarked, dashed, solid}
use Rattle.graph.specs.Pairs.{Symmetric}
use Rattle.graph.specs.Rounds.{round, rounds}
use Rattle.graph.specs.Safety.{bonds, Safe}
use Rattle.graph.specs.SafetyLaws.{MarksAreSafe}
use Rattle.graph.proofs.Grown.{more_marks_fewer_live}
use Rattle.graph.proofs.LivePairs.{of_pairs, idle_not_live}
use Rattle.graph.proofs.Marking.{round_cases, round_grows, reasoned, marks_live, marked_pairs}
use Rattle.graph.proofs.PairTests.{turned}
use Rattle.graph.proofs.Paths.{over, path_chain}
use Rattle.graph.proofs.Reaching.{joint, turn}

-- one round
module _ (n : ℕ) (fs : List (Tree (Pair ℕ))) (g : of_lots n fs ≡ true) (m : Marks) (safe : Safe fs m)
    (marks_turn : (s : Bool) → Symmetric (idle (round n fs m) s)) where
  abbrev D : ℕ → ℕ → Bool
  D = dashed fs m

  abbrev m' : Marks
  m' = round n fs m

  fewer : Fewer m m'
  fewer = more_marks_fewer_live m m' (round_grows n fs m)

  dashed_turn : (a b : ℕ) → D a b ≡ true → D b a ≡ true
  dashed_turn = turned (of_pairs n fs g m true)

  fewer_bonds : (a b : ℕ) → bonds fs m' a b ≡ true → bonds fs m a b ≡ true
  fewer_bonds a b h = grind (arith, nat_tests, round_cases n fs m true a b, marks_live n fs g m true a b, fewer.dashes fs a b)

  -- in a component that holds a solid pair no dashed pair becomes idle, so the bonds of a path there stay dashed
  stays_dashed : (x y : ℕ) → solid fs m x y ≡ true → (z : ℕ) (ps : List ℕ) → Chain D z x → Path (bonds fs m') y z ps → Path D y z ps → Path (dashed fs m') y z ps
  stays_dashed x y s z [] c b d = d
  stays_dashed x y s z (p ∷ ps) c b d = (
    ⊎_elim
        (λ i. ⊎_elim
        (λ old. absurd (both_ways (D z p) (safe.not_dashed z p old) d.0))
        (λ new. absurd ((reasoned n fs g m true z p new).1 x y s (turn dashed_turn c) (path_chain D y z (p ∷ ps) d)))
        (round_cases n fs m true z p i))
        (λ h. h)
        (or_cases (m'.positive z p) (dashed fs m' z p) b.0),
    stays_dashed x y s p ps (joint c (step d.0 stop)) b.1 d.1,
  )

  pub safe_after : Safe fs m'
  safe_after = record {
    apart = λ x y ps i b k.
        let b' = over (bonds fs m') (bonds fs m) fewer_bonds y x ps b in
        ⊎_elim
        (λ old. safe.apart x y ps old b' k)
        (λ new. let r = reasoned n fs g m false x y new in r.1 (path_chain D y x ps (safe.bare x y ps r.0 b' k)))
        (round_cases n fs m false x y i);
    bare = λ x y ps s b k.
        let s' = fewer.solids fs x y s in
        stays_dashed x y s' x ps stop b (safe.bare x y ps s' (over (bonds fs m') (bonds fs m) fewer_bonds y x ps b) k);
    not_dashed = idle_not_live n fs g m' true (marks_turn true);
    not_solid = idle_not_live n fs g m' false (marks_turn false);
  }

-- where nothing is marked
unmarked_dashed : (fs : List (Tree (Pair ℕ))) (a b : ℕ) → bonds fs unmarked a b ≡ true → dashed fs unmarked a b ≡ true
unmarked_dashed fs a b h = grind (arith, nat_tests)

pub safe : (n : ℕ) (fs : List (Tree (Pair ℕ))) → of_lots n fs ≡ true → (k : ℕ) → Safe fs (rounds k n fs)
safe n fs g zero = record {
  apart = λ x y ps i b k. false≢true i;
  bare = λ x y ps s b k. over (bonds fs unmarked) (dashed fs unmarked) (unmarked_dashed fs) y x ps b;
  not_dashed = λ x y i. absurd (false≢true i);
  not_solid = λ x y i. absurd (false≢true i);
}
safe n fs g (suc k) = safe_after n fs g (rounds k n fs) (safe n fs g k) (λ s. (marked_pairs n fs g (suc k) s).turns)

pub marks_are_safe : MarksAreSafe
marks_are_safe = record { after = safe; end = λ n fs g. safe n fs g (n * (n * 2)) }
