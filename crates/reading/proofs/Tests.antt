-- Tests of bytes, and what they come to.
use Rattle.std.proofs.Common.{◌≡◌, ℕ, Bool, true, false, cond, eqb, leb, ◌≢◌, ◌||◌, ◌⊎◌, sym, refl, ap, ◌∙◌, subst, inl, inr, ⊎_elim, arith}
use mathlib.Core.Bool.{false≢true}
use Rattle.std.proofs.lemmas.Bool.{and_parts, and_left, or_cases, false_from_ne_true, eqb-true, leb-true, lt-leb, cond-true, cond-false}
use Rattle.reading.specs.Bytes.{lower, upper, edge}
use Rattle.reading.specs.Scan.{Kind, gap, opening, closing, small, big, strange, kind}

pub inv_cond : {X : Type 0} (b : Bool) {x y z : X} → cond b x y ≡ z → ((b ≡ true) × (x ≡ z)) ⊎ ((b ≡ false) × (y ≡ z))
inv_cond true e = inl (refl, e)
inv_cond false e = inr (refl, e)

-- a test that would make another come out wrong is false
pub unlike : (f : ℕ → Bool) (b c : ℕ) → f b ≡ true → f c ≡ false → eqb b c ≡ false
unlike f b c h g = false_from_ne_true (eqb b c) (λ e. false≢true (sym g ∙ ap f (sym (eqb-true b c e)) ∙ h))

-- a space or a parenthesis
pub edge_is : (b : ℕ) → edge b ≡ true → (P : ℕ → Type 0) → P 32 → P 40 → P 41 → P b
edge_is b e P x y z = ⊎_elim
    (λ h. ⊎_elim (λ g. subst P (sym (eqb-true b 32 g)) x) (λ g. subst P (sym (eqb-true b 40 g)) y) (or_cases (eqb b 32) (eqb b 40) h))
    (λ h. subst P (sym (eqb-true b 41 h)) z)
    (or_cases (eqb b 32 || eqb b 40) (eqb b 41) e)

upper_lower : (b : ℕ) → upper b ≡ true → lower b ≡ false
upper_lower b h =
    let below = leb-true b 90 (and_parts (leb 65 b) (leb b 90) h).1 in
    and_left (leb 97 b) (leb b 122) (lt-leb 97 b (omega arith))

pub lower_kind : (b : ℕ) → lower b ≡ true → kind b ≡ small
lower_kind b h =
    cond-false (eqb b 32) gap _ (unlike lower b 32 h refl)
    ∙ cond-false (eqb b 40) opening _ (unlike lower b 40 h refl)
    ∙ cond-false (eqb b 41) closing _ (unlike lower b 41 h refl)
    ∙ cond-true (lower b) small _ h

pub upper_kind : (b : ℕ) → upper b ≡ true → kind b ≡ big
upper_kind b h =
    cond-false (eqb b 32) gap _ (unlike upper b 32 h refl)
    ∙ cond-false (eqb b 40) opening _ (unlike upper b 40 h refl)
    ∙ cond-false (eqb b 41) closing _ (unlike upper b 41 h refl)
    ∙ cond-false (lower b) small _ (upper_lower b h)
    ∙ cond-true (upper b) big strange h

-- which byte has which kind
abbrev pub OfKind : ℕ → Kind → Type 0
OfKind b gap = b ≡ 32
OfKind b opening = b ≡ 40
OfKind b closing = b ≡ 41
OfKind b small = lower b ≡ true
OfKind b big = upper b ≡ true
OfKind b strange = Unit {0}

pub of_kind : (b : ℕ) → OfKind b (kind b)
of_kind b = go (eqb b 32) refl (eqb b 40) refl (eqb b 41) refl (lower b) refl (upper b) refl
  where
    go : (t : Bool) → eqb b 32 ≡ t → (u : Bool) → eqb b 40 ≡ u → (v : Bool) → eqb b 41 ≡ v → (w : Bool) → lower b ≡ w → (x : Bool) → upper b ≡ x
        → OfKind b (cond t gap (cond u opening (cond v closing (cond w small (cond x big strange)))))
    go true e u f v g w h x i = eqb-true b 32 e
    go false e true f v g w h x i = eqb-true b 40 f
    go false e false f true g w h x i = eqb-true b 41 g
    go false e false f false g true h x i = h
    go false e false f false g false h true i = i
    go false e false f false g false h false i = tt

-- kinds that are no edge, and kinds that are no space
abbrev pub inner : Kind → Bool
inner gap = false
inner opening = false
inner closing = false
inner small = true
inner big = true
inner strange = true

abbrev pub solid : Kind → Bool
solid gap = false
solid opening = true
solid closing = true
solid small = true
solid big = true
solid strange = true

pub edge_inner : (b : ℕ) → inner (kind b) ≡ true → edge b ≡ false
edge_inner b h = false_from_ne_true (edge b) (λ e. edge_is b e (λ x. inner (kind x) ≡ true → ⊥) false≢true false≢true false≢true h)

pub inner_edge : (b : ℕ) → edge b ≡ false → inner (kind b) ≡ true
inner_edge b e = go (eqb b 32) refl (eqb b 40) refl (eqb b 41) refl
  where
    rest : (w x : Bool) → inner (cond w small (cond x big strange)) ≡ true
    rest true x = refl
    rest false true = refl
    rest false false = refl

    go : (t : Bool) → eqb b 32 ≡ t → (u : Bool) → eqb b 40 ≡ u → (v : Bool) → eqb b 41 ≡ v
        → inner (cond t gap (cond u opening (cond v closing (cond (lower b) small (cond (upper b) big strange))))) ≡ true
    go true f u g v h = absurd (false≢true (sym e ∙ ap edge (eqb-true b 32 f)))
    go false f true g v h = absurd (false≢true (sym e ∙ ap edge (eqb-true b 40 g)))
    go false f false g true h = absurd (false≢true (sym e ∙ ap edge (eqb-true b 41 h)))
    go false f false g false h = rest (lower b) (upper b)

pub not_space : (b : ℕ) → solid (kind b) ≡ true → b ≢ 32
not_space b h e = false≢true (sym (ap (λ x. solid (kind x)) e) ∙ h)

pub no_gap : (b : ℕ) → solid (kind b) ≡ true → kind b ≢ gap
no_gap b h g = false≢true (sym (ap solid g) ∙ h)

pub space_gap : (b : ℕ) → b ≢ 32 → kind b ≢ gap
space_gap b n e = n (subst (OfKind b) e (of_kind b))
