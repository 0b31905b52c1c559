-- What a round marks: tests of pairs, each mark with its reason.
use Rattle.std.proofs.lemmas.Bool.Decides.{nat_tests}
use Rattle.std.proofs.Common.{◌≡◌, ℕ, zero, suc, Bool, true, false, ◌||◌, ◌⊎◌, List, sym, refl, subst, ⊎_elim, arith}
use mathlib.Core.Path.{fun_ext}
use Rattle.std.proofs.lemmas.Bool.{both_ways, cases_Bool}
use Rattle.formula.specs.declared.node.Pair.{Pair}
use Rattle.formula.specs.Tree.{Tree}
use Rattle.graph.specs.Ending.{MarkedBy}
use Rattle.graph.specs.Growth.{Grown}
use Rattle.graph.specs.InForce.{of_lots}
use Rattle.graph.specs.Marks.{Marks, idle, unmarked, live_in, dashed, solid}
use Rattle.graph.specs.Pairs.{OfPairs}
use Rattle.graph.specs.Reasons.{Reason}
use Rattle.graph.specs.RoundLaws.{ComponentsAreChains, RoundsShrink, MarksHaveReasons, MarkedPairs}
use Rattle.graph.specs.Rounds.{reason, round, rounds}
use Rattle.graph.proofs.Grown.{more_marks_fewer_live}
use Rattle.graph.proofs.LivePairs.{of_pairs}
use Rattle.graph.proofs.PairTests.{either_pairs}
use Rattle.graph.proofs.Reaching.{joined_is_chained}
use Rattle.graph.proofs.Reasons.{reasons_are_tested, reason_turns}

-- marks that say the same are the same
pub same_marks : (m m' : Marks) → ((s : Bool) (a b : ℕ) → idle m s a b ≡ idle m' s a b) → m ≡ m'
same_marks m m' h = grind (arith, nat_tests, h true, h false)

pub not_marked : (s : Bool) (a b : ℕ) → idle unmarked s a b ≡ false
not_marked true a b = refl
not_marked false a b = refl

module _ (n : ℕ) (fs : List (Tree (Pair ℕ))) where
  -- the reason under marks
  abbrev why : Marks → Bool → ℕ → ℕ → Bool
  why m s a b = reason n (dashed fs m) (solid fs m) s a b

  pub round_is : (m : Marks) (s : Bool) (a b : ℕ) → idle (round n fs m) s a b ≡ (idle m s a b || why m s a b)
  round_is m true a b = refl
  round_is m false a b = refl

  pub round_cases : (m : Marks) (s : Bool) (a b : ℕ) → idle (round n fs m) s a b ≡ true → (idle m s a b ≡ true) ⊎ (why m s a b ≡ true)
  round_cases m s a b h = grind (arith, nat_tests)

  pub round_grows : (m : Marks) → Grown m (round n fs m)
  round_grows m s a b h = grind (arith, nat_tests)

  module _ (g : of_lots n fs ≡ true) where
    pub reasoned : (m : Marks) (s : Bool) (a b : ℕ) → why m s a b ≡ true → Reason (dashed fs m) (solid fs m) s a b
    reasoned m s a b = (reasons_are_tested n (dashed fs m) (solid fs m) (of_pairs n fs g m true) (of_pairs n fs g m false) s a b).0

    -- a literal that there is a reason to mark is live
    pub marks_live : (m : Marks) (s : Bool) (a b : ℕ) → why m s a b ≡ true → live_in m fs s a b ≡ true
    marks_live m true a b h = (reasoned m true a b h).0
    marks_live m false a b h = (reasoned m false a b h).0

    -- the reason is a test of pairs, and so are the marks
    pub reason_pairs : (m : Marks) (s : Bool) → OfPairs n (why m s)
    reason_pairs m s = let live = of_pairs n fs g m s in record {
      turns = reason_turns n (dashed fs m) (solid fs m) (of_pairs n fs g m true) (of_pairs n fs g m false) s;
      own = λ x. grind (arith, nat_tests, live.own x, marks_live m s x x);
      lots = λ x y h. live.lots x y (marks_live m s x y h);
    }

    pub marked_pairs : (k : ℕ) (s : Bool) → OfPairs n (idle (rounds k n fs) s)
    marked_pairs zero s = grind (arith, nat_tests, not_marked s)
    marked_pairs (suc k) s =
        let m : Marks = rounds k n fs in
        let e : ℕ → ℕ → Bool = λ a b. idle m s a b || why m s a b in
        let both = either_pairs n (idle m s) (why m s) (marked_pairs k s) (reason_pairs m s) in
        subst (OfPairs n) (fun_ext (λ a. fun_ext (λ b. sym (round_is m s a b)))) both

    pub had_reason : (k : ℕ) (s : Bool) (a b : ℕ) → idle (rounds k n fs) s a b ≡ true → MarkedBy n fs k s a b
    had_reason zero s a b h = absurd (both_ways (idle unmarked s a b) (not_marked s a b) h)
    had_reason (suc k) s a b h = ⊎_elim
        (λ e. let r = had_reason k s a b e in let l = r.before in record { at = r.at; before = omega arith; unset = r.unset; set = r.set; why = r.why })
        (λ e. record {
          at = k;
          before = omega arith;
          unset = e;
          set = h;
          why = grind (arith, nat_tests, round_cases (rounds k n fs) s a b, reasoned (rounds k n fs) s a b);
        })
        (cases_Bool (idle (rounds k n fs) s a b))

pub components_are_chains : ComponentsAreChains
components_are_chains n fs g m = joined_is_chained n (dashed fs m) (of_pairs n fs g m true).lots

pub rounds_shrink : RoundsShrink
rounds_shrink n fs k =
    let m : Marks = rounds k n fs in
    record { grown = round_grows n fs m; fewer = more_marks_fewer_live m (round n fs m) (round_grows n fs m) }

pub marks_have_reasons : MarksHaveReasons
marks_have_reasons n fs g = had_reason n fs g

pub pairs_marked : MarkedPairs
pairs_marked n fs g = marked_pairs n fs g
