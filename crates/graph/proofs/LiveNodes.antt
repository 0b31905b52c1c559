-- The literals that are found live are those of live nodes.
use Rattle.std.proofs.Common.{arith, ◌≡◌, ℕ, Bool, true, ◌&&◌, ◌||◌, ap}
use Rattle.std.proofs.lemmas.Bool.Decides.{nat_tests}
use Rattle.formula.specs.declared.literal.Literal.{Literal}
use Rattle.formula.specs.declared.scale.Three.TheVariants.{Open}
use Rattle.formula.specs.Tree.{Tree, leaf, not, and, or, then}
use Rattle.graph.specs.Live.{Part, of_not, left_and, right_and, left_or, right_or, left_then, right_then, Live, at_top, below, LiveLiteral}
use Rattle.graph.specs.MarkLaws.{LiveIsLive}
use Rattle.graph.specs.Marks.{Marks, value, is_open, live}

module _ (m : Marks) (top : Tree Literal) (s : Bool) (a b : ℕ) where
  abbrev Enters : Tree Literal → Type 0
  Enters t = value m t ≡ Open → Live m top t

  -- down a node with two parts
  down_two : (n t u : Tree Literal) → Enters n → Part t n → Part u n → (Enters t → live m t s a b ≡ true → LiveLiteral m top s a b) → (Enters u → live m u s a b ≡ true → LiveLiteral m top s a b)
      → (is_open (value m n) && (live m t s a b || live m u s a b)) ≡ true → LiveLiteral m top s a b
  down_two n t u e p q in_t in_u h =
      let l = e (grind (arith, nat_tests)) in
      grind (arith, nat_tests, in_t (below l p), in_u (below l q))

  down : (t : Tree Literal) → Enters t → live m t s a b ≡ true → LiveLiteral m top s a b
  down (leaf l) e h = record { literal = l; lives = e (grind (arith, nat_tests)); sign = grind (arith, nat_tests); on = grind (arith, nat_tests) }
  down (not w t) e h = down t (below (e (grind (arith, nat_tests))) of_not) (grind (arith, nat_tests))
  down (and w t u) e h = down_two (and w t u) t u e left_and right_and (down t) (down u) h
  down (or w t u) e h = down_two (or w t u) t u e left_or right_or (down t) (down u) h
  down (then w t u) e h = down_two (then w t u) t u e left_then right_then (down t) (down u) h

  opened : (t : Tree Literal) → Live m top t → value m t ≡ Open
  opened t (at_top e) = e
  opened t (below n p e) = e

  -- what is live in a part of an open node is live in the node
  lifts : (t n : Tree Literal) → Part t n → is_open (value m n) ≡ true → live m t s a b ≡ true → live m n s a b ≡ true
  lifts t n of_not o h = grind (arith, nat_tests)
  lifts t n left_and o h = grind (arith, nat_tests)
  lifts t n right_and o h = grind (arith, nat_tests)
  lifts t n left_or o h = grind (arith, nat_tests)
  lifts t n right_or o h = grind (arith, nat_tests)
  lifts t n left_then o h = grind (arith, nat_tests)
  lifts t n right_then o h = grind (arith, nat_tests)

  up : (t : Tree Literal) → Live m top t → live m t s a b ≡ true → live m top s a b ≡ true
  up t (at_top e) h = h
  up t (below {n = n} l p e) h = up n l (lifts t n p (ap is_open (opened n l)) h)

  found_up : LiveLiteral m top s a b → live m top s a b ≡ true
  found_up f =
      let l : Literal = f.literal in
      let o = opened (leaf l) f.lives in
      up (leaf l) f.lives (grind (arith, nat_tests, f.sign, f.on))

pub live_is_live : LiveIsLive
live_is_live m top s a b = (down m top s a b top at_top, found_up m top s a b)
