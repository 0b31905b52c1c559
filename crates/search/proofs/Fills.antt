-- Values filled up with false. Rests on specs/States.
use Rattle.std.proofs.Common.{◌≡◌, ℕ, zero, suc, ◌+◌, ◌-◌, ◌<◌, ◌≤◌, Bool, true, false, List, [], ◌∷◌, ◌++◌, length, take, set, drop, replicate, Some, None, Option, refl, ap, sym, ◌∙◌, arith, add-one, length-append, length-take}
use Rattle.std.proofs.lemmas.Grind.{common_steps}
use Rattle.std.proofs.lemmas.List.{take-replicate, take_more_set}
use Rattle.search.specs.States.{cut, counted, filled}

-- nothing to fill
pub filled_same : (n : ℕ) (bs : List Bool) → n ≤ length bs → filled n bs ≡ bs
unfolding filled
filled_same zero bs l = refl
filled_same (suc n) [] l = absurd (omega arith)
filled_same (suc n) (b ∷ bs) l = ap (λ cs. b ∷ cs) (filled_same n bs (omega arith))

push_false : (n : ℕ) (bs : List Bool) → length bs ≤ n → filled n bs ++ false ∷ [] ≡ filled (suc n) bs
unfolding filled
push_false zero [] l = refl
push_false zero (b ∷ bs) l = absurd (omega arith)
push_false (suc n) [] l = ap (λ cs. false ∷ cs) (push_false n [] (omega arith))
push_false (suc n) (b ∷ bs) l = ap (λ cs. b ∷ cs) (push_false n bs (omega arith))

pub filled_push : (n : ℕ) (bs : List Bool) → length bs ≤ n → filled n bs ++ false ∷ [] ≡ filled (n + 1) bs
filled_push n bs l = rw add-one (push_false n bs l)

-- filling up is adding so many times false
filled_more : (n k : ℕ) (bs : List Bool) → n ≡ length bs + k → filled n bs ≡ bs ++ replicate k false
unfolding filled
filled_more zero k [] e = let z : k ≡ 0 = omega arith in rw z refl
filled_more zero k (b ∷ bs) e = absurd (omega arith)
filled_more (suc n) k [] e = let z : k ≡ suc n = omega arith in rw z (ap (λ cs. false ∷ cs) (filled_more n n [] (omega arith)))
filled_more (suc n) k (b ∷ bs) e = ap (λ cs. b ∷ cs) (filled_more n k bs (omega arith))

-- as many as there are none of, taken from a row of them
pub filled_taken : (n room : ℕ) (bs : List Bool) → length bs ≤ n → n ≤ room → filled n bs ≡ bs ++ take (n - length bs) (replicate room false)
filled_taken n room bs l m = rw (take-replicate (n - length bs) room false (omega arith)) (filled_more n (n - length bs) bs (omega arith))

pub length_filled : (n : ℕ) (bs : List Bool) → length bs ≤ n → length (filled n bs) ≡ n
unfolding filled
length_filled zero [] l = refl
length_filled zero (b ∷ bs) l = absurd (omega arith)
length_filled (suc n) [] l = ap suc (length_filled n [] (omega arith))
length_filled (suc n) (b ∷ bs) l = ap suc (length_filled n bs (omega arith))

-- the true at an index and as many falses as there are values after it
pub counted_at : (bs : List Bool) (i : ℕ) → i < length bs → filled (length bs) (cut bs i) ≡ take (i + 1) (set bs i true) ++ replicate (length bs - (i + 1)) false
counted_at bs i l =
    filled_more (length bs) (length bs - (i + 1)) (cut bs i) (omega (arith, length-append (take i bs) (true ∷ []), length-take i bs))
    ∙ ap (λ cs. cs ++ replicate (length bs - (i + 1)) false) (sym (take_more_set bs i true l))

pub length_counted : (bs : List Bool) (o : Option ℕ) → ((i : ℕ) → o ≡ Some i → i < length bs) → length (counted bs o) ≡ length bs
length_counted bs (Some i) h = length_filled (length bs) (cut bs i) (omega (arith, h i refl, length-append (take i bs) (true ∷ []), length-take i bs))
length_counted bs None h = refl

-- with the values behind an index all turned to false
pub made_of : (bs : List Bool) (a n : ℕ) (cs : List Bool) → length bs ≡ a + n → cs ≡ replicate (length (take (length bs - a) (drop a bs))) false
    → take a bs ++ (cs ++ drop (length bs - a) (drop a bs)) ≡ take a bs ++ replicate n false
made_of bs a n cs e is = grind (arith, common_steps)
