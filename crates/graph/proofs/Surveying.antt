-- What chains over the standing lots give.
use Rattle.std.proofs.Common.{◌≡◌, ℕ, suc, ◌+◌, ◌-◌, Bool, true, false, cond, Option, Some, None, List, [], ◌∷◌, length, sym, refl, ap, ap₂, ◌∙◌, subst, ⊎_elim, arith, nat_lt, position}
use Rattle.std.specs.List.{range_with_len, FoldsTo, reduce, position_from}
use Rattle.std.specs.Fn.{CalledAt}
use Rattle.std.specs.Iterator.{PicksMinByKey, KeyTurn}
use Rattle.std.specs.Iterator.Adapters.{filter_source, filter_callee, filter_steps}
use Rattle.std.specs.Option.{unwrap_or, option_map_or}
use Rattle.std.specs.Ordering.{nat_cmp, min_by_ordering}
use Rattle.std.specs.declared.cmp.Ordering.{Ordering}
use Rattle.std.specs.declared.cmp.Ordering.TheVariants.{Less, Equal, Greater}
use Rattle.std.specs.declared.iter.Filter.{Filter}
use Rattle.std.specs.declared.ops.RangeInclusive.{RangeInclusive}
use Rattle.std.specs.Range.{range_inclusive_start, range_inclusive_end, range_inclusive_exhausted, range_inclusive_len}
use Rattle.std.proofs.iter.runs.Sources.{nat_range_inclusive_steps}
use Rattle.std.proofs.lemmas.Bool.{cases_Bool}
use Rattle.std.proofs.lemmas.Bool.Decides.{nat_tests}
use Rattle.std.proofs.lemmas.Iterator.{YieldsList, items_from_drains}
use Rattle.std.proofs.lemmas.Iterator.Adapters.{position_from-zero}
use Rattle.std.proofs.lemmas.Iterator.Consumers.{YieldsList-from_shown, YieldsList-from_filter}
use Rattle.std.proofs.lemmas.List.{map-id}
use Rattle.std.proofs.lemmas.List.FromFn.{length-range_with_len}
use denote.Param.Members.{Mut}
use denote.Ref.{Bor}
use Rattle.graph.specs.Lots.{has}
use Rattle.graph.specs.Pickers.{lowest_first, degree, fewest, fewest_first}
use Rattle.graph.specs.Standing.{flagged_from, standing_in}
use Rattle.graph.proofs.Flags.{filtered}

-- the numbers that `a..=b` has left
abbrev left : RangeInclusive ℕ → ℕ
left s = range_inclusive_len (λ x y. y - x) (range_inclusive_start s) (range_inclusive_end s) (range_inclusive_exhausted s)

abbrev numbers : RangeInclusive ℕ → List ℕ
numbers s = range_with_len (range_inclusive_start s) (left s)

ended : (s t : RangeInclusive ℕ) → nat_range_inclusive_steps s None t → length (numbers s) ≡ 0
ended s t h = length-range_with_len (range_inclusive_start s) (left s) ∙ h.1.0

one_more : (s : RangeInclusive ℕ) (x : ℕ) (t : RangeInclusive ℕ) → nat_range_inclusive_steps s (Some x) t → numbers s ≡ x ∷ numbers t
one_more s x t h =
    let e : left s ≡ suc (left t) = omega (arith, h.1.1) in
    ap (range_with_len (range_inclusive_start s)) e
    ∙ ap₂ (λ y ys. y ∷ ys) (sym h.1.0)
    (⊎_elim
    (λ d. let z : left t ≡ 0 = ap (range_inclusive_len (λ x y. y - x) (range_inclusive_start t) (range_inclusive_end t)) d in
    ap (range_with_len (range_inclusive_start s + 1)) z ∙ sym (ap (range_with_len (range_inclusive_start t)) z))
    (λ d. ap (λ z. range_with_len z (left t)) (sym (h.1.2 d)))
    (cases_Bool (range_inclusive_exhausted t)))

numbers_from : {s : RangeInclusive ℕ} (n : ℕ) → range_inclusive_start s ≡ 1 → range_inclusive_end s ≡ n → range_inclusive_exhausted s ≡ false
    → YieldsList nat_range_inclusive_steps (λ x. x) s (range_with_len 1 n)
numbers_from {s} n a b e =
    let l : left s ≡ n = ap (range_inclusive_len (λ x y. y - x) (range_inclusive_start s) (range_inclusive_end s)) e ∙ omega (arith, a, b) in
    subst (YieldsList nat_range_inclusive_steps (λ x. x) s) (ap₂ range_with_len a l) (YieldsList-from_shown nat_range_inclusive_steps (λ x. x) numbers ended one_more s)

-- the numbers of the lots, filtered by whether they stand
pub standing_from : {F : Type 0} {s : Filter (RangeInclusive ℕ) F} (g : Mut F (Bor ℕ × Unit {0}) Bool) (bs : List Bool) {f : F}
    → range_inclusive_start (filter_source s) ≡ 1 → range_inclusive_end (filter_source s) ≡ length bs → range_inclusive_exhausted (filter_source s) ≡ false
    → filter_callee s ≡ f → ((x : ℕ) (b : Bool) (q : F) → CalledAt g f x b q → (q ≡ f) × (b ≡ has x (standing_in bs)))
    → YieldsList (filter_steps nat_range_inclusive_steps g) (λ x. x) s (standing_in bs)
standing_from {s = s} g bs a b e c says =
    subst (YieldsList (filter_steps nat_range_inclusive_steps g) (λ x. x) s) (filtered bs)
    (YieldsList-from_filter g (λ x. has x (standing_in bs)) (numbers_from (length bs) a b e) c says)

-- the lesser of two keys, and the first where they are equal
picked : (a b u v : ℕ) → min_by_ordering (nat_cmp a b) u v ≡ cond (nat_lt b a) v u
picked a b u v = grind (arith, nat_tests)

-- `min_by_key` at a key that is a function of the item
module _ {F : Type 0} (g : Mut F (Bor ℕ × Unit {0}) ℕ) (key : ℕ → ℕ) {f : F}
    (says : (x k : ℕ) (q : F) → CalledAt g f x k q → (q ≡ f) × (k ≡ key x)) where
  -- the key of the lesser
  key_of : (o : Ordering) (u v : ℕ) → min_by_ordering o (key u) (key v) ≡ key (min_by_ordering o u v)
  key_of Less u v = refl
  key_of Equal u v = refl
  key_of Greater u v = refl

  turns : (xs : List ℕ) (best k : ℕ) (f' : F) (q : F × ℕ) (y : ℕ) → f' ≡ f → k ≡ key best
      → FoldsTo {P = (F × ℕ) × ℕ} (KeyTurn min_by_ordering min_by_ordering g nat_cmp) ((f', k), best) xs (q, y) → y ≡ fewest key best xs
  turns [] best k f' q y e d h = sym (ap (λ (p : (F × ℕ) × ℕ). p.1) h)
  turns (x ∷ xs) best k f' q y e d h =
      let (j, r, rest) = h in
      let t = says x r.0 j.0.0 (subst (λ z. CalledAt g z x r.0 j.0.0) e r.2) in
      let o : nat_cmp (key best) (key x) ≡ r.1 = ap₂ nat_cmp (sym d) (sym t.1) ∙ r.3 in
      subst (λ b. y ≡ fewest key b xs) (r.5 ∙ ap (λ z. min_by_ordering z best x) (sym o) ∙ picked (key best) (key x) best x)
      (turns xs j.1 j.0.1 j.0.0 q y t.0 (r.4 ∙ ap₂ (min_by_ordering r.1) d t.1 ∙ key_of r.1 best x ∙ ap key (sym r.5)) rest)

  pub fewest_by_key : {S : Type 0} {steps : S → Option ℕ → S → Type 0} {s : S} {all : List ℕ} (r : Option ℕ) → PicksMinByKey steps g nat_cmp s f r → YieldsList steps (λ x. x) s all
      → r ≡ reduce (λ best x. cond (nat_lt (key x) (key best)) x best) all
  fewest_by_key {steps = steps} None h road = ap (reduce (λ best x. cond (nat_lt (key x) (key best)) x best)) (items_from_drains {steps = steps} [] (h.1.0, h.1.1, λ _. (h.0, h.1.2)) road)
  fewest_by_key {steps = steps} (Some y) h road =
      let (x, xs, k, f', q, d, called, turned) = h in
      let t = says x k f' called in
      let all_is = items_from_drains {steps = steps} (x ∷ xs) (d.1.0, d.1.1, λ _. (d.0, d.1.2)) road in
      ap Some (turns xs x k f' q y t.0 t.1 turned)
      ∙ ap (reduce (λ best x. cond (nat_lt (key x) (key best)) x best)) (sym (map-id (x ∷ xs)) ∙ all_is)

-- the choice among the standing lots, of which there may be none
pub chosen_all : (e : ℕ → ℕ → Bool) (xs : List ℕ)
    → unwrap_or (reduce (λ best x. cond (nat_lt (degree e x xs) (degree e best xs)) x best) xs) 0 ≡ fewest_first xs e
chosen_all e [] = refl
chosen_all e (x ∷ xs) = refl

-- the first lot whose flag is set
first_from : (bs : List Bool) (k : ℕ) (e : ℕ → ℕ → Bool) → option_map_or (λ i. i + 1) (position_from (λ b. b) k bs) 0 ≡ lowest_first (flagged_from (k + 1) bs) e
first_from [] k e = refl
first_from (true ∷ bs) k e = refl
first_from (false ∷ bs) k e = first_from bs (k + 1) e

pub first_standing : (bs : List Bool) (e : ℕ → ℕ → Bool) → option_map_or (λ i. i + 1) (position (λ b. b) bs) 0 ≡ lowest_first (standing_in bs) e
first_standing bs e = ap (λ o. option_map_or (λ i. i + 1) o 0) (position_from-zero (λ b. b) bs) ∙ first_from bs 0 e
