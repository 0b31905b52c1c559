-- Lists with one item changed.
use Rattle.std.proofs.Common.{◌≡◌, ℕ, zero, suc, ◌≢◌, List, [], ◌∷◌, map, length, get_or, take, set, Some, None, sym, refl, ap, ◌∙◌, arith}
use Rattle.std.specs.List.{slice_get}
use Rattle.rules.specs.Items.{item, altered, altered_item}

pub set_altered : {A : Type 0} (f : A → A) (xs : List A) (i : ℕ) (d : A) → set xs i (f (get_or xs i d)) ≡ altered f i xs
set_altered f [] i d = refl
set_altered f (x ∷ xs) zero d = refl
set_altered f (x ∷ xs) (suc i) d = ap (λ ys. x ∷ ys) (set_altered f xs i d)

module _ {A : Type 0} (f : A → A) where
  pub length_altered : (i : ℕ) (xs : List A) → length (altered f i xs) ≡ length xs
  length_altered i [] = refl
  length_altered zero (x ∷ xs) = refl
  length_altered (suc i) (x ∷ xs) = ap suc (length_altered i xs)

  pub take_altered : (n i : ℕ) (xs : List A) → take n (altered f i xs) ≡ altered f i (take n xs)
  take_altered zero i xs = refl
  take_altered (suc n) i [] = refl
  take_altered (suc n) zero (x ∷ xs) = refl
  take_altered (suc n) (suc i) (x ∷ xs) = ap (λ ys. x ∷ ys) (take_altered n i xs)

-- a change that shows in what is told of an item
pub map_altered : {A B : Type 0} (g : A → B) (f : A → A) (h : B → B) → ((x : A) → g (f x) ≡ h (g x))
    → (i : ℕ) (xs : List A) → map g (altered f i xs) ≡ altered h i (map g xs)
map_altered g f h e i [] = refl
map_altered g f h e zero (x ∷ xs) = ap (λ y. y ∷ map g xs) (e x)
map_altered g f h e (suc i) (x ∷ xs) = ap (λ ys. g x ∷ ys) (map_altered g f h e i xs)

-- a change of an item that is not there
nth_absent : {A : Type 0} (f : A → A) (i : ℕ) (xs : List A) → slice_get xs i ≡ None → altered f i xs ≡ xs
nth_absent f i [] e = refl
nth_absent f zero (x ∷ xs) e = absurd (let z : ◌≡◌ {A = ℕ} 0 1 = cc in omega arith)
nth_absent f (suc i) (x ∷ xs) e = ap (λ ys. x ∷ ys) (nth_absent f i xs e)

pub altered_absent : {A : Type 0} (f : A → A) (n : ℕ) (xs : List A) → item n xs ≡ None → altered_item f n xs ≡ xs
altered_absent f zero xs e = refl
altered_absent f (suc i) xs e = nth_absent f i xs e

-- the item itself, the others, and a change that is taken back
module _ {A : Type 0} (f : A → A) where
  nth_altered : (xs : List A) (i : ℕ) (x : A) → slice_get xs i ≡ Some x → slice_get (altered f i xs) i ≡ Some (f x)
  nth_altered [] i x e = absurd (let z : ◌≡◌ {A = ℕ} 0 1 = cc in omega arith)
  nth_altered (y ∷ xs) zero x e = let s : y ≡ x = cc in ap (λ z. Some (f z)) s
  nth_altered (y ∷ xs) (suc i) x e = nth_altered xs i x e

  nth_other : (xs : List A) (i j : ℕ) → j ≢ i → slice_get (altered f i xs) j ≡ slice_get xs j
  nth_other [] i j n = refl
  nth_other (y ∷ xs) zero zero n = absurd (n refl)
  nth_other (y ∷ xs) zero (suc j) n = refl
  nth_other (y ∷ xs) (suc i) zero n = refl
  nth_other (y ∷ xs) (suc i) (suc j) n = nth_other xs i j (λ e. n (ap suc e))

  pub item_altered : (xs : List A) (n : ℕ) (x : A) → item n xs ≡ Some x → item n (altered_item f n xs) ≡ Some (f x)
  item_altered xs zero x e = absurd (let z : ◌≡◌ {A = ℕ} 0 1 = cc in omega arith)
  item_altered xs (suc i) x e = nth_altered xs i x e

  pub item_other : (xs : List A) (n k : ℕ) → k ≢ n → item k (altered_item f n xs) ≡ item k xs
  item_other xs zero k h = refl
  item_other xs (suc i) zero h = refl
  item_other xs (suc i) (suc j) h = nth_other xs i j (λ e. h (ap suc e))

  module _ (g : A → A) (x : A) (back : g (f x) ≡ x) where
    nth_back : (xs : List A) (i : ℕ) → slice_get xs i ≡ Some x → altered g i (altered f i xs) ≡ xs
    nth_back [] i e = refl
    nth_back (y ∷ xs) zero e = let s : y ≡ x = cc in ap (λ z. z ∷ xs) (ap (λ z. g (f z)) s ∙ back ∙ sym s)
    nth_back (y ∷ xs) (suc i) e = ap (λ ys. y ∷ ys) (nth_back xs i e)

    pub altered_back : (xs : List A) (n : ℕ) → item n xs ≡ Some x → altered_item g n (altered_item f n xs) ≡ xs
    altered_back xs zero e = refl
    altered_back xs (suc i) e = nth_back xs i e
