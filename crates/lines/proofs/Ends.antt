-- The lines of an input, the first one apart.
use Rattle.std.proofs.Common.{◌≡◌, ℕ, suc, ◌+◌, ◌<◌, ◌≤◌, Bool, true, false, cond, not, eqb, ltb, List, [], ◌∷◌, Some, None, length, take, drop, refl, ap, ◌∙◌, ap₂, arith}
use Rattle.std.proofs.lemmas.Bool.{ltb-false}
use Rattle.std.specs.List.{position}
use Rattle.lines.specs.Lines.{length_of_line, begun, lines_of}

pub ends_at : (bytes : List ℕ) (i : ℕ) → Some i ≡ position (λ b. eqb b 10) bytes → i ≡ length_of_line bytes
ends_at bytes i e = go (ltb (length_of_line bytes) (length bytes)) e
  where
    go : (t : Bool) → Some i ≡ cond t (Some (length_of_line bytes)) None → i ≡ length_of_line bytes
    go true f = cc
    go false f = cc

pub ends_never : (bytes : List ℕ) → None ≡ position (λ b. eqb b 10) bytes → length bytes ≤ length_of_line bytes
ends_never bytes e = go (ltb (length_of_line bytes) (length bytes)) refl e
  where
    go : (t : Bool) → ltb (length_of_line bytes) (length bytes) ≡ t → None ≡ cond t (Some (length_of_line bytes)) None → length bytes ≤ length_of_line bytes
    go true f g = absurd (let z : ⊥ = cc in z)
    go false f g = ltb-false _ _ f

one_on : (b : ℕ) (s : List ℕ) (n : ℕ) → begun b (take n s ∷ lines_of (drop (n + 1) s)) ≡ take (1 + n) (b ∷ s) ∷ lines_of (drop (1 + n + 1) (b ∷ s))
one_on b s n =
    let i : suc n ≡ 1 + n = omega arith in
    let j : suc (n + 1) ≡ 1 + n + 1 = omega arith in
    ap₂ (λ x y. take x (b ∷ s) ∷ lines_of (drop y (b ∷ s))) i j

pub lines_more : (bytes : List ℕ) → 0 < length bytes → lines_of bytes ≡ take (length_of_line bytes) bytes ∷ lines_of (drop (length_of_line bytes + 1) bytes)
lines_more [] h = absurd (let z : ⊥ = omega arith in z)
lines_more (b ∷ bs) h = go (eqb b 10) bs (lines_more bs)
  where
    go : (t : Bool) (s : List ℕ) → (0 < length s → lines_of s ≡ take (length_of_line s) s ∷ lines_of (drop (length_of_line s + 1) s))
        → cond t ([] ∷ lines_of s) (begun b (lines_of s)) ≡ take (cond (not t) (1 + length_of_line s) 0) (b ∷ s) ∷ lines_of (drop (cond (not t) (1 + length_of_line s) 0 + 1) (b ∷ s))
    go true s e = refl
    go false [] e = refl
    go false (c ∷ s) e = ap (begun b) (e (omega arith)) ∙ one_on b (c ∷ s) (length_of_line (c ∷ s))
