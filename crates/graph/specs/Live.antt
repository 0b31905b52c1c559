-- Which nodes of a tree are live under marks (meaning). Rests on Marks.
use Rattle.std.specs.Prelude.{◌≡◌, ℕ, Bool, true}
use Rattle.formula.specs.Tree.{Tree, leaf, not, and, or, then}
use Rattle.formula.specs.declared.literal.Literal.{Literal}
use Rattle.formula.specs.declared.scale.Three.TheVariants.{Open}
use Rattle.graph.specs.Marks.{Marks, value}
use Rattle.graph.specs.Pairs.{same_pair}

-- one node is a part of another
pub data Part {A : Type 0} (t : Tree A) : Tree A → Type 0 where
  of_not : {w : ℕ} → Part t (not w t)
  left_and : {w : ℕ} {u : Tree A} → Part t (and w t u)
  right_and : {w : ℕ} {u : Tree A} → Part t (and w u t)
  left_or : {w : ℕ} {u : Tree A} → Part t (or w t u)
  right_or : {w : ℕ} {u : Tree A} → Part t (or w u t)
  left_then : {w : ℕ} {u : Tree A} → Part t (then w t u)
  right_then : {w : ℕ} {u : Tree A} → Part t (then w u t)

-- a node is live when it is open, and is the top or part of a live node
pub data Live (m : Marks) (top : Tree Literal) : Tree Literal → Type 0 where
  at_top : value m top ≡ Open → Live m top top
  below : {t n : Tree Literal} → Live m top n → Part t n → value m t ≡ Open → Live m top t

-- a live literal of a sign on the pair of a and b
pub record LiveLiteral (m : Marks) (top : Tree Literal) (s : Bool) (a b : ℕ) : Type 0 where
  pub literal : Literal
  pub lives : Live m top (leaf literal)
  pub sign : literal.positive ≡ s
  pub on : same_pair literal.pair.first literal.pair.second a b ≡ true
