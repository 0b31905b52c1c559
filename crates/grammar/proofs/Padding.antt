-- Names with zeros behind them.
use Rattle.std.proofs.Common.{◌≡◌, ℕ, zero, suc, ◌<◌, ◌≤◌, true, ◌↔◌, List, [], ◌∷◌, ◌++◌, length, set, sym, refl, ap, ◌∙◌, ap₂, arith}
use Rattle.std.specs.List.{AllByRecursion}
use Rattle.grammar.specs.declared.name.Name.{Name}
use Rattle.grammar.specs.Names.{pad, stored, same, Decoded}
use Rattle.grammar.proofs.Same.{same_self, same_is}

pub length_pad : (n : ℕ) (xs : List ℕ) → length (pad n xs) ≡ n
length_pad zero xs = refl
length_pad (suc n) [] = ap suc (length_pad n [])
length_pad (suc n) (x ∷ xs) = ap suc (length_pad n xs)

pub pad_set : (n : ℕ) (xs : List ℕ) (b : ℕ) → length xs < n → set (pad n xs) (length xs) b ≡ pad n (xs ++ b ∷ [])
pad_set zero xs b h = absurd (let z : ⊥ = omega arith in z)
pad_set (suc n) [] b h = refl
pad_set (suc n) (x ∷ xs) b h = ap (λ s. x ∷ s) (pad_set n xs b (omega arith))

pub pad_full : (n : ℕ) (xs : List ℕ) (b : ℕ) → n ≤ length xs → pad n (xs ++ b ∷ []) ≡ pad n xs
pad_full zero xs b h = refl
pad_full (suc n) [] b h = absurd (let z : ⊥ = omega arith in z)
pad_full (suc n) (x ∷ xs) b h = ap (λ s. x ∷ s) (pad_full n xs b (omega arith))

heads : {x y : ℕ} {xs ys : List ℕ} → x ∷ xs ≡ y ∷ ys → x ≡ y
heads e = cc

tails : {x y : ℕ} {xs ys : List ℕ} → x ∷ xs ≡ y ∷ ys → xs ≡ ys
tails e = cc

-- bytes that are not 0 can be told from the zeros behind them
pub pad_same : (k : ℕ) (n m : List ℕ) → length n ≤ k → length m ≤ k → AllByRecursion (λ b. 0 < b) n → AllByRecursion (λ b. 0 < b) m → pad k n ≡ pad k m → n ≡ m
pad_same k [] [] h l p q e = refl
pad_same zero (x ∷ n) m h l p q e = absurd (let z : ⊥ = omega arith in z)
pad_same zero [] (y ∷ m) h l p q e = absurd (let z : ⊥ = omega arith in z)
pad_same (suc k) [] (y ∷ m) h l p q e = absurd (let z : ⊥ = omega (arith, heads e, q.0) in z)
pad_same (suc k) (x ∷ n) [] h l p q e = absurd (let z : ⊥ = omega (arith, heads e, p.0) in z)
pad_same (suc k) (x ∷ n) (y ∷ m) h l p q e = ap₂ (λ a s. a ∷ s) (heads e) (pad_same k n m (omega arith) (omega arith) p.1 q.1 (tails e))

-- two stored names have the same bytes exactly when the decoded names are equal
pub same_stored : (a b : Name) (n m : List ℕ) → Decoded n → Decoded m → a ≡ stored n → b ≡ stored m → (same a.bytes b.bytes ≡ true) ↔ (n ≡ m)
same_stored a b n m d f e g =
    let p : a.bytes ≡ pad 12 n = ap (λ (x : Name). x.bytes) e in
    let q : b.bytes ≡ pad 12 m = ap (λ (x : Name). x.bytes) g in (
      (λ s. pad_same 12 n m d.few f.few d.no_zero f.no_zero (sym p ∙ same_is a.bytes b.bytes s ∙ q)),
      (λ s. ap (λ x. same x b.bytes) (p ∙ ap (pad 12) s ∙ sym q) ∙ same_self b.bytes),
    )
