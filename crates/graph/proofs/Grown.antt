-- With more marks, what is decided stays as it is, and live literals get fewer.
use Rattle.std.proofs.lemmas.Bool.Decides.{nat_tests}
use Rattle.std.proofs.Common.{arith, ◌≡◌, ℕ, Bool, true, false, List, [], ◌∷◌}
use Rattle.formula.specs.declared.literal.Literal.{Literal}
use Rattle.formula.specs.declared.node.Pair.{Pair}
use Rattle.formula.specs.Decided.{Less}
use Rattle.formula.specs.Normal.{nnf}
use Rattle.formula.specs.Tree.{Tree, leaf, not, and, or, then}
use Rattle.formula.proofs.Information.{informed}
use Rattle.graph.specs.Growth.{Grown}
use Rattle.graph.specs.MarkLaws.{MoreMarksFewerLive}
use Rattle.graph.specs.Marks.{Marks, under, value, is_open, live, live_in}

module _ (m m' : Marks) (g : Grown m m') where
  less_under : (l : Literal) → Less (under m l) (under m' l)
  less_under l = grind (arith, nat_tests)

  less : (t : Tree Literal) → Less (value m t) (value m' t)
  less t = (informed Literal).kept t (under m) (under m') less_under

  opens : (t : Tree Literal) → is_open (value m' t) ≡ true → is_open (value m t) ≡ true
  opens t h = grind (arith, nat_tests, less t)

  lives : (t : Tree Literal) (s : Bool) (a b : ℕ) → live m' t s a b ≡ true → live m t s a b ≡ true
  lives (leaf l) s a b h = grind (arith, nat_tests, opens (leaf l))
  lives (not w t) s a b h = grind (arith, nat_tests, opens (not w t), lives t s a b)
  lives (and w t u) s a b h = grind (arith, nat_tests, opens (and w t u), lives t s a b, lives u s a b)
  lives (or w t u) s a b h = grind (arith, nat_tests, opens (or w t u), lives t s a b, lives u s a b)
  lives (then w t u) s a b h = grind (arith, nat_tests, opens (then w t u), lives t s a b, lives u s a b)

  lives_in : (s : Bool) (fs : List (Tree (Pair ℕ))) (a b : ℕ) → live_in m' fs s a b ≡ true → live_in m fs s a b ≡ true
  lives_in s [] a b h = h
  lives_in s (f ∷ fs) a b h = grind (arith, nat_tests, lives (nnf true f) s a b, lives_in s fs a b)

pub more_marks_fewer_live : MoreMarksFewerLive
more_marks_fewer_live m m' g = record { stays = less m m' g; lives = lives m m' g; dashes = lives_in m m' g true; solids = lives_in m m' g false }
