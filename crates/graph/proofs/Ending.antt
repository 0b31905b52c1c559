-- The rounds end at the first that marks nothing.
use Rattle.std.proofs.lemmas.Bool.Decides.{nat_tests}
use Rattle.std.proofs.Common.{◌≡◌, ℕ, zero, suc, ◌+◌, ◌-◌, ◌*◌, ◌<◌, ◌≤◌, Bool, true, ◌⊎◌, List, sym, refl, ap, ◌∙◌, subst, inl, inr, ⊎_elim, arith}
use Rattle.std.proofs.lemmas.Bool.{cases_eq, cases_lt}
use Rattle.formula.specs.declared.node.Pair.{Pair}
use Rattle.formula.specs.Tree.{Tree}
use Rattle.graph.specs.Ending.{Settled}
use Rattle.graph.specs.InForce.{of_lots}
use Rattle.graph.specs.Marks.{Marks, idle, dashed, solid}
use Rattle.graph.specs.Pairs.{IsPair, OfPairs}
use Rattle.graph.specs.RoundLaws.{RoundsEnd}
use Rattle.graph.specs.Rounds.{reason, round, rounds, marked}
use Rattle.graph.proofs.LivePairs.{of_pairs}
use Rattle.graph.proofs.Marking.{same_marks, round_cases, round_grows, marks_live, reason_pairs}
use Rattle.graph.proofs.PairTests.{turned, by_pairs}
use Rattle.graph.proofs.Weights.{weight, weight_most, weight_le, no_heavier}

module _ (n : ℕ) (fs : List (Tree (Pair ℕ))) where
  -- a round that marks nothing changes nothing
  unchanged : (m : Marks) → Settled n fs m → round n fs m ≡ m
  unchanged m h = same_marks (round n fs m) m (λ s a b. grind (arith, nat_tests, h s a b, round_grows n fs m s a b))

  still : (d k j : ℕ) → d + k ≡ j → Settled n fs (rounds k n fs) → rounds j n fs ≡ rounds k n fs
  still zero k j e h = let q : k ≡ j = omega arith in ap (λ z. rounds z n fs) (sym q)
  still (suc d) k j e h =
      let q : suc (d + k) ≡ j = omega arith in
      ap (λ z. rounds z n fs) (sym q) ∙ ap (round n fs) (still d k (d + k) refl h) ∙ unchanged (rounds k n fs) h

  later : (k j : ℕ) → k ≤ j → Settled n fs (rounds k n fs) → rounds j n fs ≡ rounds k n fs
  later k j l h = still (j - k) k j (omega arith) h

  -- a round that makes the marks heavier marks something
  not_settled : (m : Marks) → weight n m < weight n (round n fs m) → Settled n fs m → ⊥
  not_settled m w h = omega (arith, weight_le n (round n fs m) m h)

  -- none of the first k rounds marks nothing
  abbrev None : ℕ → Type 0
  None k = (j : ℕ) → j < k → Settled n fs (rounds j n fs) → ⊥

  abbrev First : ℕ → Type 0
  First k = (at : ℕ) × (at ≤ k) × Settled n fs (rounds at n fs) × None at

  module _ (g : of_lots n fs ≡ true) where
    no_more : (m : Marks) → weight n (round n fs m) ≤ weight n m → Settled n fs m
    no_more m w s a b h = ⊎_elim
        (λ p. p)
        (λ p. let l = (of_pairs n fs g m s).lots a b (marks_live n fs g m s a b p) in no_heavier n m (round n fs m) (round_grows n fs m) w s a b l.0 l.1 h)
        (round_cases n fs m s a b h)

    -- a round marks nothing when it marks no pair, lower lot first
    pub settled_by : (m : Marks) → ((s : Bool) → OfPairs n (idle m s)) → ((s : Bool) (a b : ℕ) → IsPair n a b → reason n (dashed fs m) (solid fs m) s a b ≡ true → idle m s a b ≡ true) → Settled n fs m
    settled_by m o h s a b t = ⊎_elim
        (λ p. p)
        (λ p. by_pairs n (reason n (dashed fs m) (solid fs m) s) (reason_pairs n fs g m s) (λ x y. idle m s x y ≡ true) (turned (o s)) (h s) a b p)
        (round_cases n fs m s a b t)

    -- among k rounds is the first that marks nothing, or there are k marks
    progress : (k : ℕ) → First k ⊎ (None k × (k ≤ weight n (rounds k n fs)))
    progress zero = inr (λ j l h. omega arith, omega arith)
    progress (suc k) = ⊎_elim
        (λ p. let (at, l, h, none) = p in inl (at, omega arith, h, none))
        (λ p. let (none, w) = p in ⊎_elim
        (λ l. inr (
          λ j i h. ⊎_elim
              (λ e. not_settled (rounds k n fs) l (subst (λ z. Settled n fs (rounds z n fs)) e h))
              (λ e. none j (omega arith) h)
              (cases_eq j k),
          omega arith,
        ))
        (λ l. inl (k, omega arith, no_more (rounds k n fs) l, none))
        (cases_lt (weight n (rounds k n fs)) (weight n (rounds (suc k) n fs))))
        (progress k)

    first : First (n * (n * 2))
    first = ⊎_elim
        (λ p. p)
        (λ p. let (none, w) = p in
        (n * (n * 2), omega arith, no_more (marked n fs) (omega (arith, weight_most n (round n fs (marked n fs)))), none))
        (progress (n * (n * 2)))

pub rounds_end : RoundsEnd
rounds_end n fs g =
    let (at, l, h, none) = first n fs g in
    record {
      at = at;
      soon = l;
      nothing = h;
      first = none;
      later = λ j k. later n fs at j k h;
      end = later n fs at (n * (n * 2)) l h;
      wherever = λ j k. ⊎_elim
          (λ i. absurd (none j i k))
          (λ i. later n fs at j i h ∙ sym (later n fs at (n * (n * 2)) l h))
          (cases_lt j at);
    }
