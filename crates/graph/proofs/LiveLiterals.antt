-- Live literals: what is known of the one that makes a test of live literals true.
use Rattle.std.proofs.lemmas.Bool.Decides.{nat_tests}
use Rattle.std.proofs.Common.{arith, ◌≡◌, ℕ, Bool, true, false, not as flip, ◌&&◌, ◌||◌, eqb, List, [], ◌∷◌, refl}
use Rattle.std.proofs.lemmas.Bool.{false≢true, and_parts}
use Rattle.formula.specs.declared.literal.Literal.{Literal}
use Rattle.formula.specs.declared.node.Pair.{Pair}
use Rattle.formula.specs.Normal.{nnf}
use Rattle.formula.specs.Tree.{Tree, every, leaf, not, and, or, then}
use Rattle.graph.specs.InForce.{pair_of_lots, of_lots}
use Rattle.graph.specs.Marks.{Marks, idle, literal_under, under, value, is_open, live, live_in}
use Rattle.graph.specs.Pairs.{same_pair}

pub open_literal : (m : Marks) (s : Bool) (a b : ℕ) → is_open (literal_under m s a b) ≡ true → (eqb a b ≡ false) × (idle m s a b ≡ false)
open_literal m s a b = grind (arith, nat_tests)

nnf_atoms : (p : Pair ℕ → Bool) (b : Bool) (t : Tree (Pair ℕ)) → every (λ l. p l.pair) (nnf b t) ≡ every p t
nnf_atoms p b (leaf a) = refl
nnf_atoms p b (not w t) = nnf_atoms p (flip b) t
nnf_atoms p b (and w t u) = grind (arith, nat_tests, nnf_atoms p b t, nnf_atoms p b u)
nnf_atoms p b (or w t u) = grind (arith, nat_tests, nnf_atoms p b t, nnf_atoms p b u)
nnf_atoms p b (then w t u) = grind (arith, nat_tests, nnf_atoms p (flip b) t, nnf_atoms p b u)

-- an open literal of a sign on the pair of a and b, whose own pair passes a test
pub record Found (m : Marks) (p : Pair ℕ → Bool) (s : Bool) (a b : ℕ) : Type 0 where
  pub literal : Literal
  pub passes : p literal.pair ≡ true
  pub opened : is_open (under m literal) ≡ true
  pub sign : literal.positive ≡ s
  pub on : same_pair literal.pair.first literal.pair.second a b ≡ true

module _ (m : Marks) (p : Pair ℕ → Bool) (s : Bool) (a b : ℕ) where
  abbrev test : Literal → Bool
  test l = p l.pair

  -- of a node with two parts, one part has it
  of_two : (n t u : Tree Literal) → (every test t ≡ true → live m t s a b ≡ true → Found m p s a b) → (every test u ≡ true → live m u s a b ≡ true → Found m p s a b)
      → (every test t && every test u) ≡ true → (is_open (value m n) && (live m t s a b || live m u s a b)) ≡ true → Found m p s a b
  of_two n t u in_t in_u g h = grind (arith, nat_tests)

  finds : (t : Tree Literal) → every test t ≡ true → live m t s a b ≡ true → Found m p s a b
  finds (leaf l) g h = record { literal = l; passes = g; opened = grind (arith, nat_tests); sign = grind (arith, nat_tests); on = grind (arith, nat_tests) }
  finds (not w t) g h = finds t g (grind (arith, nat_tests))
  finds (and w t u) g h = of_two (and w t u) t u (finds t) (finds u) g h
  finds (or w t u) g h = of_two (or w t u) t u (finds t) (finds u) g h
  finds (then w t u) g h = of_two (then w t u) t u (finds t) (finds u) g h

pub found : (n : ℕ) (fs : List (Tree (Pair ℕ))) → of_lots n fs ≡ true → (m : Marks) (s : Bool) (a b : ℕ) → live_in m fs s a b ≡ true → Found m (pair_of_lots n) s a b
found n [] g m s a b h = absurd (false≢true h)
found n (f ∷ fs) g m s a b h =
    grind (arith, nat_tests, nnf_atoms (pair_of_lots n) true f, finds m (pair_of_lots n) s a b (nnf true f), found n fs (and_parts (every (pair_of_lots n) f) (of_lots n fs) g).1 m s a b)
