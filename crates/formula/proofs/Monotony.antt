-- A normal form is monotone in its atoms.
use Rattle.std.proofs.Common.{◌≡◌, Bool, true, ⊎_elim}
use Rattle.std.proofs.lemmas.Bool.{and_parts, and_from, or_cases, or_left, or_right, false≢true}
use Rattle.formula.specs.Normal.{is_normal}
use Rattle.formula.specs.Scales.{two}
use Rattle.formula.specs.Tree.{Tree, leaf, not, and, or, then}
use Rattle.formula.specs.Truth.{truth}
use Rattle.formula.specs.TruthLaws.{Monotone}

module _ {A : Type 0} (v w : A → Bool) (h : (a : A) → v a ≡ true → w a ≡ true) where
  stays_true : (t : Tree A) → is_normal t ≡ true → truth two v t ≡ true → truth two w t ≡ true
  stays_true (leaf a) n e = h a e
  stays_true (not p t) n e = absurd (false≢true n)
  stays_true (and p t u) n e =
      let m = and_parts (is_normal t) (is_normal u) n in
      let b = and_parts (truth two v t) (truth two v u) e in
      and_from (truth two w t) (truth two w u) (stays_true t m.0 b.0) (stays_true u m.1 b.1)
  stays_true (or p t u) n e =
      let m = and_parts (is_normal t) (is_normal u) n in
      ⊎_elim (λ b. or_left (truth two w t) (truth two w u) (stays_true t m.0 b)) (λ b. or_right (truth two w t) (truth two w u) (stays_true u m.1 b))
      (or_cases (truth two v t) (truth two v u) e)
  stays_true (then p t u) n e = absurd (false≢true n)

pub monotone : {A : Type 0} (t : Tree A) → is_normal t ≡ true → Monotone t
monotone t n v w h e = stays_true v w h t n e
