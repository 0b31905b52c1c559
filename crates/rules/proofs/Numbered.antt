-- Items by their numbers and by their indices.
use Rattle.std.proofs.Common.{◌≡◌, ℕ, zero, suc, ◌≤◌, true, false, List, map, length, Some, None, Option, MatchOption, is_some, Bor, sym, ap, ◌∙◌, arith}
use Rattle.std.proofs.lemmas.Option.{slice_get-map, slice_get-get_or, slice_get_past, slice_get_within}
use Rattle.std.proofs.lemmas.Bool.{false≢true}
use Rattle.std.specs.List.{slice_get}
use Rattle.std.specs.Option.{option_map}
use Rattle.std.specs.Slice.{IsItemAt}
use Rattle.rules.specs.Items.{item}

-- what is told of the item that is lent, by its number
pub told_item : {A B : Type 0} (g : A → B) (xs all : List A) (n i : ℕ) → all ≡ xs → n ≡ suc i → (r : Option (Bor A)) → IsItemAt all i r
    → MatchOption r (item n (map g xs) ≡ None) (λ x. item n (map g xs) ≡ Some (g x.now))
told_item g xs all n i s e None h =
    ap (λ k. item k (map g xs)) e ∙ slice_get-map g xs i ∙ ap (λ ys. option_map g (slice_get ys i)) (sym s) ∙ ap (option_map g) (slice_get_past all i h.3)
told_item g xs all n i s e (Some x) h =
    ap (λ k. item k (map g xs)) e ∙ slice_get-map g xs i ∙ ap (λ ys. option_map g (slice_get ys i)) (sym s) ∙ ap (option_map g) (slice_get-get_or all i x.now h.3.0 ∙ ap Some (sym h.1))

-- where an item is, and that it is not there
pub item_inside : {A : Type 0} (n : ℕ) (xs : List A) (x : A) → item n xs ≡ Some x → (1 ≤ n) × (n ≤ length xs)
item_inside zero xs x e = absurd (let z : ◌≡◌ {A = ℕ} 0 1 = cc in omega arith)
item_inside (suc i) xs x e = let l = slice_get_within xs i x e in (omega arith, omega arith)

-- by what is told of the item
module _ {A B : Type 0} (n : ℕ) (xs : List A) (f : B → A) where
  pub told_some : (r : Option (Bor B)) → MatchOption r (item n xs ≡ None) (λ x. item n xs ≡ Some (f x.now)) → is_some r ≡ true → (1 ≤ n) × (n ≤ length xs)
  told_some None h e = absurd (false≢true e)
  told_some (Some x) h e = item_inside n xs (f x.now) h

  pub told_none : (r : Option (Bor B)) → MatchOption r (item n xs ≡ None) (λ x. item n xs ≡ Some (f x.now)) → is_some r ≡ false → item n xs ≡ None
  told_none None h e = h
  told_none (Some x) h e = absurd (false≢true (sym e))
