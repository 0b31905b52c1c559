-- The operations of a truth scale, and the two laws that they obey. Rests on nothing.
use Rattle.std.specs.Prelude.{◌≡◌}

-- and, or, not
pub record Ops (S : Type 0) : Type 0 where
  pub both : S → S → S
  pub either : S → S → S
  pub opposite : S → S

-- Not twice changes nothing; the not of an and is the or of the nots.
pub record Laws {S : Type 0} (o : Ops S) : Type 0 where
  pub twice : (x : S) → o.opposite (o.opposite x) ≡ x
  pub dual : (x y : S) → o.opposite (o.both x y) ≡ o.either (o.opposite x) (o.opposite y)
