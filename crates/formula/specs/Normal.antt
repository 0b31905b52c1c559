-- The negation normal form of a formula. Rests on Tree, Ops and Literal.
use Rattle.std.specs.Prelude.{ℕ, Bool, true, false, not as flip, ◌&&◌}
use Rattle.formula.specs.declared.literal.Literal.{Literal}
use Rattle.formula.specs.declared.node.Pair.{Pair}
use Rattle.formula.specs.Ops.{Ops}
use Rattle.formula.specs.Tree.{Tree, leaf, not, and, or, then}

-- an `and` for a positive sign, an `or` for a negative one
abbrev pub joined : {A : Type 0} → Bool → ℕ → Tree A → Tree A → Tree A
joined true p t u = and p t u
joined false p t u = or p t u

-- The normal form of a formula (sign true) or of its opposite (sign false). `not` turns the sign; under a negative sign `and` and `or` change places;
-- `p then q` is (not p) or q. Each `and` and `or` keeps the place of the word that it came from, and the parts their order.
abbrev pub nnf : Bool → Tree (Pair ℕ) → Tree Literal
nnf b (leaf a) = leaf (record { positive = b; pair = a })
nnf b (not p t) = nnf (flip b) t
nnf b (and p t u) = joined b p (nnf b t) (nnf b u)
nnf b (or p t u) = joined (flip b) p (nnf b t) (nnf b u)
nnf b (then p t u) = joined (flip b) p (nnf (flip b) t) (nnf b u)

-- only leaves, `and` and `or`
abbrev pub is_normal : {A : Type 0} → Tree A → Bool
is_normal (leaf a) = true
is_normal (not p t) = false
is_normal (and p t u) = is_normal t && is_normal u
is_normal (or p t u) = is_normal t && is_normal u
is_normal (then p t u) = false

-- a truth or its opposite, by the sign
abbrev pub signed : {S : Type 0} → Ops S → Bool → S → S
signed o true x = x
signed o false x = o.opposite x

-- the truth of a literal, from that of its pair
abbrev pub literal_truth : {S : Type 0} → Ops S → (Pair ℕ → S) → Literal → S
literal_truth o v l = signed o l.positive (v l.pair)

-- the pair of a literal
abbrev pub pair_of : Literal → Pair ℕ
pair_of l = l.pair

-- where the word of a literal's pair stands
abbrev pub literal_place : Literal → ℕ
literal_place l = l.pair.place
