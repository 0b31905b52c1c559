-- The assignments that agree with some values or come after them, as values are turned, filled and added. Rests on specs/States and specs/Meanings.
use Rattle.std.proofs.Common.{◌≡◌, ℕ, zero, suc, ◌+◌, ◌-◌, ◌<◌, Bool, true, false, ◌⊎◌, List, [], ◌∷◌, ◌++◌, length, get_or, Some, None, Option, refl, sym, ap, ◌∙◌, inl, inr, ⊎_elim, arith}
use Rattle.std.specs.Bool.{beq}
use Rattle.std.proofs.lemmas.Bool.{cases_Bool, true≢false}
use Rattle.clauses.specs.Meaning.{Assignment, Extends, assigned}
use Rattle.search.specs.States.{last_at, last_of, last_false, cut, filled}
use Rattle.search.specs.Meanings.{Ahead}

-- the assignment has these values of the variables from v on
abbrev pub Same : ℕ → List Bool → Assignment → Type 0
Same v [] α = Unit {0}
Same v (b ∷ bs) α = (α v ≡ b) × Same (suc v) bs α

same_at : (bs : List Bool) (v : ℕ) (α : Assignment) → Same v bs α → (i : ℕ) → i < length bs → α (v + i) ≡ get_or bs i false
same_at [] v α s i l = absurd (omega arith)
same_at (b ∷ bs) v α (e, s) zero l = let z : v + 0 ≡ v = omega arith in rw z e
same_at (b ∷ bs) v α (e, s) (suc i) l =
    let z : v + suc i ≡ suc v + i = omega arith in
    ap α z ∙ same_at bs (suc v) α s i (omega arith)

pub same_extends : (bs : List Bool) (α : Assignment) → Same 1 bs α → Extends bs α
same_extends bs α s v low high =
    let z : 1 + (v - 1) ≡ v = omega arith in
    sym (ap α z) ∙ same_at bs 1 α s (v - 1) (omega arith)

-- still ahead once the last false is turned; nothing is, where there is no false
abbrev pub Onward : ℕ → List Bool → Assignment → Option ℕ → Type 0
Onward v bs α (Some i) = Ahead v (cut bs i) α
Onward v bs α None = ⊥

onward_same : (b : Bool) (bs : List Bool) (v : ℕ) (α : Assignment) → α v ≡ b → (o : Option ℕ) → Onward (suc v) bs α o → Onward v (b ∷ bs) α (last_at (beq b false) o)
unfolding Ahead
onward_same b bs v α e (Some i) t = inl (e, t)
onward_same b bs v α e None t = absurd t

onward_after : (b : Bool) (bs : List Bool) (v : ℕ) (α : Assignment) → b ≡ false → α v ≡ true → (o : Option ℕ) → Onward v (b ∷ bs) α (last_at (beq b false) o)
unfolding Ahead
onward_after b bs v α f t (Some i) = inr (f, t)
onward_after true bs v α f t None = absurd (true≢false f)
onward_after false bs v α f t None = inl (t, tt)

-- what is ahead either has the values or comes after the last false turned to true
pub ahead_onward : (bs : List Bool) (v : ℕ) (α : Assignment) → Ahead v bs α → Same v bs α ⊎ Onward v bs α (last_false bs)
unfolding Ahead last_of
ahead_onward [] v α a = inl tt
ahead_onward (b ∷ bs) v α (inl (e, a)) =
    ⊎_elim (λ s. inl (e, s)) (λ t. inr (onward_same b bs v α e (last_false bs) t)) (ahead_onward bs (suc v) α a)
ahead_onward (b ∷ bs) v α (inr (f, t)) = inr (onward_after b bs v α f t (last_false bs))

-- a false comes first
ahead_false : (bs : List Bool) (v : ℕ) (α : Assignment) → ((w : ℕ) → Ahead w bs α) → Ahead v (false ∷ bs) α
unfolding Ahead
ahead_false bs v α a = ⊎_elim (λ t. inr (refl, t)) (λ f. inl (f, a (suc v))) (cases_Bool (α v))

falses_ahead : (n v : ℕ) (α : Assignment) → Ahead v (filled n []) α
unfolding Ahead filled
falses_ahead zero v α = tt
falses_ahead (suc n) v α = ahead_false (filled n []) v α (λ w. falses_ahead n w α)

pub ahead_filled : (n : ℕ) (bs : List Bool) (v : ℕ) (α : Assignment) → Ahead v bs α → Ahead v (filled n bs) α
unfolding Ahead filled
ahead_filled zero bs v α a = a
ahead_filled (suc n) [] v α a = falses_ahead (suc n) v α
ahead_filled (suc n) (b ∷ bs) v α (inl (e, a)) = inl (e, ahead_filled n bs (suc v) α a)
ahead_filled (suc n) (b ∷ bs) v α (inr h) = inr h

pub ahead_push : (bs : List Bool) (v : ℕ) (α : Assignment) → Ahead v bs α → Ahead v (bs ++ false ∷ []) α
unfolding Ahead
ahead_push [] v α a = ahead_false [] v α (λ _. tt)
ahead_push (b ∷ bs) v α (inl (e, a)) = inl (e, ahead_push bs (suc v) α a)
ahead_push (b ∷ bs) v α (inr h) = inr h

pub ahead_none : (v : ℕ) (α : Assignment) → Ahead v [] α
unfolding Ahead
ahead_none v α = tt

-- the order is antisymmetric: values of equal length, each with an assignment ahead of the other, are the same
pub same_order : (xs ys : List Bool) (v : ℕ) (α β : Assignment) → length xs ≡ length ys → Same v ys α → Same v xs β → Ahead v xs α → Ahead v ys β → xs ≡ ys
unfolding Ahead
same_order [] [] v α β l s t a b = refl
same_order [] (y ∷ ys) v α β l s t a b = absurd (omega arith)
same_order (x ∷ xs) [] v α β l s t a b = absurd (omega arith)
same_order (x ∷ xs) (y ∷ ys) v α β l (e, s) (f, t) (inl (p, a)) (inl (q, b)) =
    let r = same_order xs ys (suc v) α β (omega arith) s t a b in cc
same_order (x ∷ xs) (y ∷ ys) v α β l (e, s) (f, t) (inl (p, a)) (inr (q, b)) = absurd (true≢false (sym b ∙ f ∙ sym p ∙ e ∙ q))
same_order (x ∷ xs) (y ∷ ys) v α β l (e, s) (f, t) (inr (p, a)) (inl (q, b)) = absurd (true≢false (sym a ∙ e ∙ sym q ∙ f ∙ p))
same_order (x ∷ xs) (y ∷ ys) v α β l (e, s) (f, t) (inr (p, a)) (inr (q, b)) = absurd (true≢false (sym a ∙ e ∙ q))

same_from : (bs : List Bool) (v : ℕ) (α : Assignment) → ((i : ℕ) → i < length bs → α (v + i) ≡ get_or bs i false) → Same v bs α
same_from [] v α h = tt
same_from (b ∷ bs) v α h = (
  let z : v + 0 ≡ v = omega arith in sym (ap α z) ∙ h 0 (omega arith),
  same_from bs (suc v) α (λ i l. let z : suc v + i ≡ v + suc i = omega arith in ap α z ∙ h (suc i) (omega arith)),
)

pub same_assigned : (bs : List Bool) → Same 1 bs (assigned bs)
same_assigned bs = same_from bs 1 (assigned bs) (λ i l. let z : 1 + i - 1 ≡ i = omega arith in ap (λ k. get_or bs k false) z)
