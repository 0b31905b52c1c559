-- Dashed and solid are tests of the pairs of the lots.
use Rattle.std.proofs.lemmas.Bool.Decides.{nat_tests}
use Rattle.std.proofs.Common.{arith, ◌≡◌, ℕ, Bool, true, false, List, [], ◌∷◌}
use Rattle.std.proofs.lemmas.Bool.{false_from_ne_true}
use Rattle.formula.specs.declared.literal.Literal.{Literal}
use Rattle.formula.specs.declared.node.Pair.{Pair}
use Rattle.formula.specs.Normal.{nnf}
use Rattle.formula.specs.Tree.{Tree, leaf, not, and, or, then}
use Rattle.graph.specs.InForce.{of_lots}
use Rattle.graph.specs.MarkLaws.{LivePairs}
use Rattle.graph.specs.Marks.{Marks, idle, live, live_in}
use Rattle.graph.specs.Pairs.{same_pair, Symmetric, OfPairs}
use Rattle.graph.proofs.LiveLiterals.{open_literal, found}

pub pair_turn : (c d a b : ℕ) → same_pair c d a b ≡ true → same_pair c d b a ≡ true
pair_turn c d a b h = grind (arith, nat_tests)

-- a pair has no order
module _ (m : Marks) (s : Bool) (a b : ℕ) where
  turns : (t : Tree Literal) → live m t s a b ≡ true → live m t s b a ≡ true
  turns (leaf l) h = grind (arith, nat_tests, pair_turn l.pair.first l.pair.second a b)
  turns (not w t) h = grind (arith, nat_tests, turns t)
  turns (and w t u) h = grind (arith, nat_tests, turns t, turns u)
  turns (or w t u) h = grind (arith, nat_tests, turns t, turns u)
  turns (then w t u) h = grind (arith, nat_tests, turns t, turns u)

  turns_in : (fs : List (Tree (Pair ℕ))) → live_in m fs s a b ≡ true → live_in m fs s b a ≡ true
  turns_in [] h = h
  turns_in (f ∷ fs) h = grind (arith, nat_tests, turns (nnf true f), turns_in fs)

pub of_pairs : (n : ℕ) (fs : List (Tree (Pair ℕ))) → of_lots n fs ≡ true → (m : Marks) (s : Bool) → OfPairs n (live_in m fs s)
of_pairs n fs g m s = record {
  turns = λ x y. grind (arith, nat_tests, turns_in m s x y fs, turns_in m s y x fs);
  own = λ x. false_from_ne_true (live_in m fs s x x) (λ h. let f = found n fs g m s x x h in grind (arith, nat_tests, f.on, f.opened));
  lots = λ x y h. let f = found n fs g m s x y h in grind (arith, nat_tests, f.on, f.passes);
}

pub live_pairs : LivePairs
live_pairs n fs g m = (of_pairs n fs g m true, of_pairs n fs g m false)

-- where marks say the same in either order, an idle literal is not live
pub idle_not_live : (n : ℕ) (fs : List (Tree (Pair ℕ))) → of_lots n fs ≡ true → (m : Marks) (s : Bool) → Symmetric (idle m s) → (a b : ℕ) → idle m s a b ≡ true → live_in m fs s a b ≡ false
idle_not_live n fs g m s sy a b i = false_from_ne_true (live_in m fs s a b) (λ h.
    let f = found n fs g m s a b h in
    let o = (open_literal m f.literal.positive f.literal.pair.first f.literal.pair.second f.opened).1 in
    grind (arith, nat_tests, f.on, f.sign, o, sy a b))
