-- Two texts have the same bytes exactly when they are equal.
use Rattle.std.proofs.Common.{◌≡◌, ℕ, true, List, refl}
use Rattle.std.proofs.lemmas.Slice.Eq.{bytes_eq-Decides}
use Rattle.grammar.specs.Names.{same}

pub same_self : (xs : List ℕ) → same xs xs ≡ true
same_self xs = (bytes_eq-Decides xs xs).1 refl

pub same_is : (xs ys : List ℕ) → same xs ys ≡ true → xs ≡ ys
same_is xs ys e = (bytes_eq-Decides xs ys).0 e
