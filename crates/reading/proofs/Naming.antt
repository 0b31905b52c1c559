-- The loop that reads a name.
use Rattle.std.proofs.Common.{◌≡◌, ℕ, zero, suc, ◌+◌, ◌-◌, ◌<◌, ◌≤◌, Bool, ◌&&◌, ◌||◌, true, false, cond, eqb, List, [], ◌∷◌, ◌++◌, length, drop, set, Some, None, Option, sym, refl, ap, ◌∙◌, subst, ap₂, append_assoc, append-nil, arith, length-append}
use Rattle.std.proofs.Math.Bool.{and-true, and-false}
use Rattle.std.proofs.lemmas.Bool.{cond-true, cond-false, eqb-true, le-leb, lt-leb}
use Rattle.std.proofs.lemmas.List.{length-drop}
use Rattle.grammar.specs.declared.name.Name.{Name}
use Rattle.grammar.specs.Names.{pad, stored}
use Rattle.grammar.proofs.Padding.{pad_set}
use Rattle.reading.specs.Bytes.{plain}
use Rattle.reading.specs.Decoding.{spellings, starts}
use Rattle.reading.specs.Scan.{behind, extra, decoded}
use Rattle.reading.specs.Lexing.{amp, letter_of, name_of}
use Rattle.reading.proofs.Decoded.{starts_is, decoded_skip}

abbrev amp_rest : List ℕ
amp_rest = 97 ∷ 109 ∷ 112 ∷ 59 ∷ []

-- the test for `&amp;` by places, as a test of the list
amp_starts : (b : ℕ) (bs : List ℕ) → amp (b ∷ bs) ≡ (eqb b 38 && starts amp_rest bs)
amp_starts b [] = sym (and-false (eqb b 38))
amp_starts b (x ∷ []) = sym (ap (λ t. eqb b 38 && t) (and-false (eqb x 97)) ∙ and-false (eqb b 38))
amp_starts b (x ∷ y ∷ []) =
    sym (ap (λ t. eqb b 38 && (eqb x 97 && t)) (and-false (eqb y 109)) ∙ ap (λ t. eqb b 38 && t) (and-false (eqb x 97)) ∙ and-false (eqb b 38))
amp_starts b (x ∷ y ∷ z ∷ []) =
    sym (ap (λ t. eqb b 38 && (eqb x 97 && (eqb y 109 && t))) (and-false (eqb z 112))
    ∙ ap (λ t. eqb b 38 && (eqb x 97 && t)) (and-false (eqb y 109)) ∙ ap (λ t. eqb b 38 && t) (and-false (eqb x 97)) ∙ and-false (eqb b 38))
amp_starts b (x ∷ y ∷ z ∷ w ∷ r) =
    ap (λ t. t && (eqb b 38 && (eqb x 97 && (eqb y 109 && (eqb z 112 && eqb w 59))))) (le-leb 5 (length (b ∷ x ∷ y ∷ z ∷ w ∷ r)) (omega arith))
    ∙ sym (ap (λ t. eqb b 38 && (eqb x 97 && (eqb y 109 && (eqb z 112 && t)))) (and-true (eqb w 59)))

-- one byte of a name, and what is decoded behind it
pub record One (bs : List ℕ) (b : ℕ) (tail : List ℕ) : Type 0 where
  pub bytes : (decoded spellings 0 bs).0 ≡ b ∷ (decoded spellings 0 tail).0
  pub count : length bs + (decoded spellings 0 tail).1 ≡ length tail + (decoded spellings 0 bs).1
  pub shorter : length tail < length bs

abbrev Next : List ℕ → Option (ℕ × List ℕ) → Type 0
Next bs None = ((decoded spellings 0 bs).0 ≡ []) × ((decoded spellings 0 bs).1 ≡ 0)
Next bs (Some p) = One bs p.0 p.1

next : (bs : List ℕ) → Next bs (letter_of bs)
unfolding decoded
next [] = (refl, refl)
next (b ∷ bs) = subst (λ t. Next (b ∷ bs) (cond t (Some (38, drop 4 bs)) (cond (eqb b 38 || plain b) (Some (b, bs)) None))) (sym (amp_starts b bs))
    (go (eqb b 38) refl (starts amp_rest bs) refl (plain b) refl)
  where
    plainly : (c : ℕ) → decoded spellings 0 (b ∷ bs) ≡ behind c (decoded spellings 0 bs) → One (b ∷ bs) c bs
    plainly c d =
        record {
          bytes = ap (λ (p : List ℕ × ℕ). p.0) d;
          count = (let z : length (b ∷ bs) + (decoded spellings 0 bs).1 ≡ length bs + (decoded spellings 0 (b ∷ bs)).1 = omega (arith, ap (λ (p : List ℕ × ℕ). p.1) d) in z);
          shorter = omega arith;
        }

    go : (t : Bool) → eqb b 38 ≡ t → (u : Bool) → starts amp_rest bs ≡ u → (v : Bool) → plain b ≡ v
        → Next (b ∷ bs) (cond (t && u) (Some (38, drop 4 bs)) (cond (t || v) (Some (b, bs)) None))
    go true e true f v g =
        let d : decoded spellings 0 (b ∷ bs) ≡ behind 38 (decoded spellings 4 bs) =
        cond-true (eqb b 38) _ _ e ∙ ap (λ x. behind 38 (decoded spellings (extra (cond x (Some amp_rest) None)) bs)) f in
        let s = decoded_skip spellings 4 bs (starts_is amp_rest bs f).1 in
        let l = (starts_is amp_rest bs f).1 in
        let m = length-drop 4 bs in
        record {
          bytes = ap (λ (p : List ℕ × ℕ). p.0) d ∙ ap (λ x. 38 ∷ x) s.0;
          count = (let z : length (b ∷ bs) + (decoded spellings 0 (drop 4 bs)).1 ≡ length (drop 4 bs) + (decoded spellings 0 (b ∷ bs)).1 = omega (arith, ap (λ (p : List ℕ × ℕ). p.1) d, s.1) in z);
          shorter = omega arith;
        }
    go true e false f v g =
        subst (λ c. One (b ∷ bs) c bs) (sym (eqb-true b 38 e))
        (plainly 38 (cond-true (eqb b 38) _ _ e ∙ ap (λ x. behind 38 (decoded spellings (extra (cond x (Some amp_rest) None)) bs)) f))
    go false e u f true g = plainly b (cond-false (eqb b 38) _ _ e ∙ cond-true (plain b) _ _ g)
    go false e u f false g =
        let d : ◌≡◌ {A = List ℕ × ℕ} (decoded spellings 0 (b ∷ bs)) ([], zero) = cond-false (eqb b 38) _ _ e ∙ cond-false (plain b) _ _ g in
        (ap (λ (p : List ℕ × ℕ). p.0) d, ap (λ (p : List ℕ × ℕ). p.1) d)

pub next_some : (bs : List ℕ) (b : ℕ) (tail : List ℕ) → ◌≡◌ {A = Option (ℕ × List ℕ)} (letter_of bs) (Some (b, tail)) → One bs b tail
next_some bs b tail e = subst (Next bs) e (next bs)

pub next_none : (bs : List ℕ) → letter_of bs ≡ None → ((decoded spellings 0 bs).0 ≡ []) × ((decoded spellings 0 bs).1 ≡ 0)
next_none bs e = subst (Next bs) e (next bs)

-- a name as far as it has been read: `rest` is left of the text
pub record Naming (first : ℕ) (text rest bytes : List ℕ) (count : ℕ) : Type 0 where
  pub done : List ℕ
  pub held : bytes ≡ pad 12 (first ∷ done)
  pub counted : count ≡ suc (length done)
  pub few : count ≤ 12
  pub goes_on : done ++ (decoded spellings 0 rest).0 ≡ (decoded spellings 0 text).0
  pub takes : length text + (decoded spellings 0 rest).1 ≡ length rest + (decoded spellings 0 text).1

pub begins : (first : ℕ) (text : List ℕ) → Naming first text text (pad 12 (first ∷ [])) 1
begins first text = record { done = []; held = refl; counted = refl; few = omega arith; goes_on = refl; takes = refl }

module _ {first : ℕ} {text rest bytes : List ℕ} {count : ℕ} (b : ℕ) (tail : List ℕ) (x : Naming first text rest bytes count) (o : One rest b tail) where
  -- one byte more, where there is room
  pub stored_more : count < 12 → Naming first text tail (set bytes count b) (count + 1)
  stored_more h =
      let c = x.counted in
      let t = x.takes in
      let k = o.count in
      let l = length-append x.done (b ∷ []) in
      record {
        done = x.done ++ b ∷ [];
        held = ap (λ s. set s count b) x.held ∙ ap (λ i. set (pad 12 (first ∷ x.done)) i b) c ∙ pad_set 12 (first ∷ x.done) b (omega arith);
        counted = (let z : count + 1 ≡ suc (length (x.done ++ b ∷ [])) = omega arith in z);
        few = omega arith;
        goes_on = append_assoc x.done (b ∷ []) (decoded spellings 0 tail).0 ∙ ap (λ s. x.done ++ s) (sym o.bytes) ∙ x.goes_on;
        takes = (let z : length text + (decoded spellings 0 tail).1 ≡ length tail + (decoded spellings 0 text).1 = omega arith in z);
      }

  -- and where there is none, the name is too long
  pub too_long : 12 ≤ count → None ≡ name_of first (decoded spellings 0 text)
  too_long h =
      let c = x.counted in
      let l = length-append x.done (decoded spellings 0 rest).0 in
      sym (cond-true _ _ _ (le-leb 12 (length (decoded spellings 0 text).0) (omega (arith, ap length x.goes_on, ap length o.bytes))))

pub ends : {first : ℕ} {text rest bytes : List ℕ} {count : ℕ} → Naming first text rest bytes count → letter_of rest ≡ None
    → (y : Name) → y.bytes ≡ bytes → ◌≡◌ {A = Option (Name × ℕ)} (Some (y, length text - length rest)) (name_of first (decoded spellings 0 text))
ends {first} {text} {rest} {bytes} {count} x e y f =
    let n = next_none rest e in
    let d : x.done ≡ (decoded spellings 0 text).0 = sym (append-nil x.done) ∙ ap (λ s. x.done ++ s) (sym n.0) ∙ x.goes_on in
    let c = x.counted in
    let w = x.few in
    let t = x.takes in
    let name : y ≡ stored (first ∷ (decoded spellings 0 text).0) = ap (λ (bs : List ℕ). record { bytes = bs }) (f ∙ x.held ∙ ap (λ s. pad 12 (first ∷ s)) d) in
    let size : length text - length rest ≡ (decoded spellings 0 text).1 = omega (arith, n.1) in
    ap₂ (λ (v : Name) (m : ℕ). Some (v, m)) name size ∙ sym (cond-false _ _ _ (lt-leb 12 (length (decoded spellings 0 text).0) (omega (arith, ap length d))))
