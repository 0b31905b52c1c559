-- Decoding, as computed and as the rule says, for any list of spellings.
use Rattle.std.proofs.Common.{◌≡◌, ℕ, zero, suc, ◌+◌, ◌≤◌, Bool, true, false, cond, eqb, List, [], ◌∷◌, ◌++◌, length, drop, Some, None, Option, sym, refl, ap, ◌∙◌, subst, zero-add, arith}
use mathlib.Core.Bool.{false≢true}
use Rattle.std.proofs.lemmas.Bool.{and_parts, or_parts, or_from, eqb-true, cond-true, cond-false}
use Rattle.reading.specs.Bytes.{plain}
use Rattle.reading.specs.Decoding.{starts, first_of, Runs, stops, itself, ampersand, reference}
use Rattle.grammar.specs.Names.{stored}
use Rattle.grammar.specs.declared.name.Name.{Name}
use Rattle.grammar.proofs.Padding.{pad_same}
use Rattle.reading.specs.Laws.{DecodedExactly, StoredExactly}
use Rattle.reading.specs.Scan.{behind, extra, decoded}
use Rattle.reading.proofs.Tests.{unlike}

pub starts_is : (xs bs : List ℕ) → starts xs bs ≡ true → (bs ≡ xs ++ drop (length xs) bs) × (length xs ≤ length bs)
starts_is [] bs e = (refl, omega arith)
starts_is (x ∷ xs) [] e = absurd (false≢true e)
starts_is (x ∷ xs) (b ∷ bs) e =
    let h = and_parts (eqb b x) (starts xs bs) e in
    let g = starts_is xs bs h.1 in
    (ap (λ z. z ∷ bs) (eqb-true b x h.0) ∙ ap (λ zs. x ∷ zs) g.0, omega (arith, g.1))

pub extra_fits : (sp : List (List ℕ)) (bs : List ℕ) → extra (first_of sp bs) ≤ length bs
extra_fits [] bs = omega arith
extra_fits (s ∷ sp) bs = go (starts s bs) refl (extra_fits sp bs)
  where
    go : (t : Bool) → starts s bs ≡ t → extra (first_of sp bs) ≤ length bs → extra (cond t (Some s) (first_of sp bs)) ≤ length bs
    go true e h = (starts_is s bs e).1
    go false e h = h

module _ (sp : List (List ℕ)) where
  -- the bytes that belong to the byte before
  pub decoded_skip : (k : ℕ) (bs : List ℕ) → k ≤ length bs
      → ((decoded sp k bs).0 ≡ (decoded sp 0 (drop k bs)).0) × ((decoded sp k bs).1 ≡ k + (decoded sp 0 (drop k bs)).1)
  unfolding decoded
  decoded_skip zero [] h = (refl, refl)
  decoded_skip zero (b ∷ bs) h = (refl, sym (zero-add (decoded sp 0 (b ∷ bs)).1))
  decoded_skip (suc k) [] h = absurd (let z : ⊥ = omega arith in z)
  decoded_skip (suc k) (b ∷ bs) h =
      let g = decoded_skip k bs (omega arith) in
      (g.0, (let z : suc (decoded sp k bs).1 ≡ suc k + (decoded sp 0 (drop k bs)).1 = omega (arith, g.1) in z))

  abbrev pub Decoding : ℕ → List ℕ → List ℕ × ℕ → Type 0
  Decoding k bs p = (p.1 ≤ length bs) × Runs sp (drop k bs) (drop p.1 bs) p.0

  at_ampersand : (bs : List ℕ) (o : Option (List ℕ)) → first_of sp bs ≡ o → Decoding (extra o) bs (decoded sp (extra o) bs)
      → Decoding 0 (38 ∷ bs) (behind 38 (decoded sp (extra o) bs))
  at_ampersand bs None e h = (omega (arith, h.0), ampersand e h.1)
  at_ampersand bs (Some s) e h = (omega (arith, h.0), reference e h.1)

  pub decoded_runs : (bs : List ℕ) (k : ℕ) → k ≤ length bs → Decoding k bs (decoded sp k bs)
  unfolding decoded
  decoded_runs [] zero h = (omega arith, stops tt)
  decoded_runs [] (suc k) h = absurd (let z : ⊥ = omega arith in z)
  decoded_runs (b ∷ bs) (suc k) h = let g = decoded_runs bs k (omega arith) in (omega (arith, g.0), g.1)
  decoded_runs (b ∷ bs) zero h =
      here (eqb b 38) refl (plain b) refl (decoded_runs bs (extra (first_of sp bs)) (extra_fits sp bs)) (decoded_runs bs 0 (omega arith))
    where
      here : (t : Bool) → eqb b 38 ≡ t → (u : Bool) → plain b ≡ u
          → Decoding (extra (first_of sp bs)) bs (decoded sp (extra (first_of sp bs)) bs) → Decoding 0 bs (decoded sp 0 bs)
          → Decoding 0 (b ∷ bs) (cond t (behind 38 (decoded sp (extra (first_of sp bs)) bs)) (cond u (behind b (decoded sp 0 bs)) ([], zero)))
      here true e u f far near =
          subst (λ z. Decoding 0 (z ∷ bs) (behind 38 (decoded sp (extra (first_of sp bs)) bs))) (sym (eqb-true b 38 e))
          (at_ampersand bs (first_of sp bs) refl far)
      here false e true f far near = (omega (arith, near.0), itself f near.1)
      here false e false f far near = (omega arith, stops (or_from (eqb b 38) (plain b) e f))

  -- what is spelt is what is computed
  pub record Computed (bs r n : List ℕ) : Type 0 where
    pub count : ℕ
    pub is : ◌≡◌ {A = List ℕ × ℕ} (decoded sp 0 bs) (n, count)
    pub fits : count ≤ length bs
    pub leaves : drop count bs ≡ r

  pub runs_decoded : {bs r n : List ℕ} → Runs sp bs r n → Computed bs r n
  unfolding decoded
  runs_decoded (stops {r = []} e) = record { count = 0; is = refl; fits = omega arith; leaves = refl }
  runs_decoded (stops {r = b ∷ r} e) =
      let h = or_parts (eqb b 38) (plain b) e in
      record { count = 0; is = cond-false (eqb b 38) _ _ h.0 ∙ cond-false (plain b) _ _ h.1; fits = omega arith; leaves = refl }
  runs_decoded (itself {b = b} {bs = bs} h x) =
      let g = runs_decoded x in
      let l = g.fits in
      record {
        count = suc g.count;
        is = cond-false (eqb b 38) _ _ (unlike plain b 38 h refl) ∙ cond-true (plain b) _ _ h ∙ ap (behind b) g.is;
        fits = omega arith;
        leaves = g.leaves;
      }
  runs_decoded (ampersand {bs = bs} e x) =
      let g = runs_decoded x in
      let l = g.fits in
      record {
        count = suc g.count;
        is = ap (λ o. behind 38 (decoded sp (extra o) bs)) e ∙ ap (behind 38) g.is;
        fits = omega arith;
        leaves = g.leaves;
      }
  runs_decoded (reference {s = s} {bs = bs} e x) =
      let g = runs_decoded x in
      let fit : length s ≤ length bs = subst (λ o. extra o ≤ length bs) e (extra_fits sp bs) in
      let k = decoded_skip (length s) bs fit in
      let is0 : decoded sp 0 (drop (length s) bs) ≡ (_, g.count) = g.is in
      let m = Rattle.std.proofs.lemmas.List.length-drop (length s) bs in
      let l = g.fits in
      record {
        count = suc (length s + g.count);
        is = ap (λ o. behind 38 (decoded sp (extra o) bs)) e
            ∙ ap (behind 38) (pair_eq (k.0 ∙ ap (λ (q : List ℕ × ℕ). q.0) g.is) (k.1 ∙ ap (λ (q : List ℕ × ℕ). length s + q.1) g.is));
        fits = omega arith;
        leaves = sym (Rattle.std.proofs.lemmas.List.drop-drop g.count (length s) bs) ∙ g.leaves;
      }
    where
      pair_eq : {p q : List ℕ × ℕ} → p.0 ≡ q.0 → p.1 ≡ q.1 → p ≡ q
      pair_eq {p} {q} e f = ap (λ x. (x, p.1)) e ∙ ap (λ y. (q.0, y)) f

-- both ways at once
pub decoded_exactly : DecodedExactly
decoded_exactly sp bs r n = (there, back)
  where
    there : Runs sp bs r n → ((decoded sp 0 bs).0 ≡ n) × ((decoded sp 0 bs).1 ≤ length bs) × (drop (decoded sp 0 bs).1 bs ≡ r)
    there x =
        let g = runs_decoded sp x in
        let c : (decoded sp 0 bs).1 ≡ g.count = ap (λ (p : List ℕ × ℕ). p.1) g.is in
        let l = g.fits in
        (ap (λ (p : List ℕ × ℕ). p.0) g.is, omega arith, ap (λ k. drop k bs) c ∙ g.leaves)

    back : ((decoded sp 0 bs).0 ≡ n) × ((decoded sp 0 bs).1 ≤ length bs) × (drop (decoded sp 0 bs).1 bs ≡ r) → Runs sp bs r n
    back h =
        let d = decoded_runs sp bs 0 (omega arith) in
        subst (λ m. Runs sp bs r m) h.0 (subst (λ q. Runs sp bs q (decoded sp 0 bs).0) h.2 d.1)

-- names are stored alike exactly when they are decoded alike
pub stored_exactly : StoredExactly
stored_exactly n m d f = (λ e. pad_same 12 n m d.few f.few d.no_zero f.no_zero (ap (λ (x : Name). x.bytes) e), λ e. ap stored e)
