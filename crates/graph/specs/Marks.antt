-- Marks on pairs: the truth of a literal and of a node under marks, live literals, dashed and solid pairs (executable). Rests on Pairs, and on the normal
-- forms and the scale of three of formulas.
use Rattle.std.specs.Prelude.{ℕ, Bool, true, false, cond, ◌&&◌, ◌||◌, List, ◌==◌}
use Rattle.std.specs.Bool.{beq}
use Rattle.std.specs.List.{list_any}
use Rattle.formula.specs.Decided.{known}
use Rattle.formula.specs.Normal.{nnf}
use Rattle.formula.specs.Scales.{three}
use Rattle.formula.specs.Tree.{Tree, leaf, not, and, or, then}
use Rattle.formula.specs.Truth.{truth}
use Rattle.formula.specs.declared.literal.Literal.{Literal}
use Rattle.formula.specs.declared.node.Pair.{Pair}
use Rattle.formula.specs.declared.scale.Three.{Three}
use Rattle.formula.specs.declared.scale.Three.TheVariants.{Yes, No, Open}
use Rattle.graph.specs.Pairs.{same_pair}

-- which literals are idle: the positive and the negative one of each pair
pub record Marks : Type 0 where
  pub positive : ℕ → ℕ → Bool
  pub negative : ℕ → ℕ → Bool

-- the literal of a sign on two lots is idle
abbrev pub idle : Marks → Bool → ℕ → ℕ → Bool
idle m true a b = m.positive a b
idle m false a b = m.negative a b

-- at first no literal is idle
abbrev pub unmarked : Marks
unmarked = record { positive = λ a b. false; negative = λ a b. false }

-- the literal of a sign on two lots: of a lot with itself it is yes, or no if negative; an idle one is yes; any other is open
abbrev pub literal_under : Marks → Bool → ℕ → ℕ → Three
literal_under m s a b = cond (a == b) (known s) (cond (idle m s a b) Yes Open)

-- the truth of a literal under marks; that a literal is idle says nothing of the opposite literal of its pair
abbrev pub under : Marks → Literal → Three
under m l = literal_under m l.positive l.pair.first l.pair.second

-- the truth of a node under marks
abbrev pub value : Marks → Tree Literal → Three
value m t = truth three (under m) t

-- open is neither yes nor no
abbrev pub is_open : Three → Bool
is_open Yes = false
is_open No = false
is_open Open = true

-- a literal has a sign and stands on the pair of a and b
abbrev pub is_on : Literal → Bool → ℕ → ℕ → Bool
is_on l s a b = beq l.positive s && same_pair l.pair.first l.pair.second a b

-- A node is live when it is open, and is the top or part of a live node. So a tree has a live literal of a sign on a pair when its top is open and it is that
-- literal, or a part of it has one.
abbrev pub live : Marks → Tree Literal → Bool → ℕ → ℕ → Bool
live m (leaf l) s a b = is_open (value m (leaf l)) && is_on l s a b
live m (not w t) s a b = is_open (value m (not w t)) && live m t s a b
live m (and w t u) s a b = is_open (value m (and w t u)) && (live m t s a b || live m u s a b)
live m (or w t u) s a b = is_open (value m (or w t u)) && (live m t s a b || live m u s a b)
live m (then w t u) s a b = is_open (value m (then w t u)) && (live m t s a b || live m u s a b)

-- the normal form of some formula in force has a live literal of a sign on a pair
abbrev pub live_in : Marks → List (Tree (Pair ℕ)) → Bool → ℕ → ℕ → Bool
live_in m fs s a b = list_any (λ f. live m (nnf true f) s a b) fs

-- live positive literals make a pair dashed
abbrev pub dashed : List (Tree (Pair ℕ)) → Marks → ℕ → ℕ → Bool
dashed fs m a b = live_in m fs true a b

-- live negative literals make a pair solid
abbrev pub solid : List (Tree (Pair ℕ)) → Marks → ℕ → ℕ → Bool
solid fs m a b = live_in m fs false a b
