-- What filling makes of the dashed and solid pairs, for every picker.
use Rattle.std.proofs.lemmas.Bool.Decides.{nat_tests}
use Rattle.std.proofs.Common.{◌≡◌, ℕ, zero, suc, ◌≤◌, Bool, true, false, ◌⊎◌, List, [], ◌∷◌, length, refl, inl, inr, ⊎_elim, arith}
use Rattle.std.proofs.lemmas.Bool.{false≢true}
use Rattle.graph.specs.Filled.{Filled, Joins, NamesStanding}
use Rattle.graph.specs.Filling.{closed, Pick, Stage, stages, named}
use Rattle.graph.specs.Lots.{Lot, has, without, Simple}
use Rattle.graph.specs.Pairs.{OfPairs}
use Rattle.graph.proofs.Closing.{closed_more, closed_joins, closed_cases, closed_off, closed_pairs}
use Rattle.graph.proofs.Members.{absent, not_without, has_without, without_has, without_lt}

-- a stage, by its parts
abbrev pub at : List ℕ → (ℕ → ℕ → Bool) → Stage
at st e = record { standing = st; linked = e }

-- what later stages keep
module _ (pick : Pick) where
  pub stages_more : (k : ℕ) (st : List ℕ) (e : ℕ → ℕ → Bool) (x y : ℕ) → e x y ≡ true → (stages k pick (at st e)).linked x y ≡ true
  stages_more zero st e x y h = h
  stages_more (suc k) [] e x y h = stages_more k [] e x y h
  stages_more (suc k) (s ∷ rest) e x y h =
      let v : ℕ = pick (s ∷ rest) e in
      let st : List ℕ = without v (s ∷ rest) in
      stages_more k st (closed v st e) x y (closed_more v st e x y h)

  -- a lot that does not stand gets no link any more
  pub stages_off : (k : ℕ) (st : List ℕ) (e : ℕ → ℕ → Bool) (x y : ℕ) → has x st ≡ false → (stages k pick (at st e)).linked x y ≡ true → e x y ≡ true
  stages_off zero st e x y o h = h
  stages_off (suc k) [] e x y o h = stages_off k [] e x y o h
  stages_off (suc k) (s ∷ rest) e x y o h =
      let v : ℕ = pick (s ∷ rest) e in
      let st : List ℕ = without v (s ∷ rest) in
      let o' = absent v x (s ∷ rest) o in
      closed_off v st e x y o' (stages_off k st (closed v st e) x y o' h)

  pub stages_pairs : (n k : ℕ) (st : List ℕ) (e : ℕ → ℕ → Bool) → ((z : ℕ) → has z st ≡ true → Lot n z) → OfPairs n e → OfPairs n (stages k pick (at st e)).linked
  stages_pairs n zero st e l o = o
  stages_pairs n (suc k) [] e l o = stages_pairs n k [] e l o
  stages_pairs n (suc k) (s ∷ rest) e l o =
      let v : ℕ = pick (s ∷ rest) e in
      let st : List ℕ = without v (s ∷ rest) in
      let l' : (z : ℕ) → has z st ≡ true → Lot n z = λ z h. l z (without_has v z (s ∷ rest) h) in
      stages_pairs n k st (closed v st e) l' (closed_pairs v st e n o l')

-- what the picker names
module _ (pick : Pick) (names : NamesStanding pick) where
  pub named_stood : (k : ℕ) (st : List ℕ) (e : ℕ → ℕ → Bool) (x : ℕ) → has x (named k pick (at st e)) ≡ true → has x st ≡ true
  named_stood zero st e x h = absurd (false≢true h)
  named_stood (suc k) [] e x h = absurd (false≢true h)
  named_stood (suc k) (s ∷ rest) e x h =
      let v : ℕ = pick (s ∷ rest) e in
      let st : List ℕ = without v (s ∷ rest) in
      grind (arith, nat_tests, names.stands s rest e, without_has v x (s ∷ rest), named_stood k st (closed v st e) x)

  pub all_named : (k : ℕ) (st : List ℕ) (e : ℕ → ℕ → Bool) → length st ≤ k → (x : ℕ) → has x st ≡ true → has x (named k pick (at st e)) ≡ true
  all_named zero [] e l x h = absurd (false≢true h)
  all_named zero (s ∷ rest) e l x h = absurd (omega arith)
  all_named (suc k) [] e l x h = absurd (false≢true h)
  all_named (suc k) (s ∷ rest) e l x h =
      let v : ℕ = pick (s ∷ rest) e in
      let st : List ℕ = without v (s ∷ rest) in
      let shorter = without_lt v (s ∷ rest) (names.stands s rest e) in
      grind (arith, nat_tests, has_without v x (s ∷ rest), all_named k st (closed v st e) (omega arith) x)

  pub named_once : (k : ℕ) (st : List ℕ) (e : ℕ → ℕ → Bool) → Simple (named k pick (at st e))
  named_once zero st e = tt
  named_once (suc k) [] e = tt
  named_once (suc k) (s ∷ rest) e =
      let v : ℕ = pick (s ∷ rest) e in
      let st : List ℕ = without v (s ∷ rest) in
      (grind (arith, nat_tests, not_without v (s ∷ rest), named_stood k st (closed v st e) v), named_once k st (closed v st e))

  pub none_left : (k : ℕ) (st : List ℕ) (e : ℕ → ℕ → Bool) → length st ≤ k → (stages k pick (at st e)).standing ≡ []
  none_left zero [] e l = refl
  none_left zero (s ∷ rest) e l = absurd (omega arith)
  none_left (suc k) [] e l = none_left k [] e (omega arith)
  none_left (suc k) (s ∷ rest) e l =
      let v : ℕ = pick (s ∷ rest) e in
      let st : List ℕ = without v (s ∷ rest) in
      none_left k st (closed v st e) (omega (arith, without_lt v (s ∷ rest) (names.stands s rest e)))

  pub filled : (k : ℕ) (st : List ℕ) (e : ℕ → ℕ → Bool) → Filled (stages k pick (at st e)).linked (named k pick (at st e))
  filled zero st e = tt
  filled (suc k) [] e = tt
  filled (suc k) (s ∷ rest) e =
      let v : ℕ = pick (s ∷ rest) e in
      let st : List ℕ = without v (s ∷ rest) in
      let c : ℕ → ℕ → Bool = closed v st e in
      let off : has v st ≡ false = not_without v (s ∷ rest) in (
        λ x y mx my ne lx ly. stages_more pick k st c x y (closed_joins v st e x y (named_stood k st c x mx) (named_stood k st c y my)
            (closed_off v st e v x off (stages_off pick k st c v x off lx)) (closed_off v st e v y off (stages_off pick k st c v y off ly)) ne),
        filled k st c,
      )

  -- a stage later, seen from a stage earlier
  pub origin : (k : ℕ) (st : List ℕ) (e : ℕ → ℕ → Bool) (x y : ℕ) → (stages k pick (at st e)).linked x y ≡ true → (e x y ≡ true) ⊎ Joins k pick (at st e) x y
  origin zero st e x y h = inl h
  origin (suc k) [] e x y h = ⊎_elim
      inl
      (λ j. let l = j.before in
      inr (record { after = suc j.after; before = omega arith; stage = j.stage; is = j.is; out = j.out; picked = j.picked; stood = j.stood; neighbours = j.neighbours }))
      (origin k [] e x y h)
  origin (suc k) (s ∷ rest) e x y h =
      let v : ℕ = pick (s ∷ rest) e in
      let st : List ℕ = without v (s ∷ rest) in
      ⊎_elim
      (λ p. ⊎_elim
      inl
      (λ q. inr (record { after = 0; before = omega arith; stage = at (s ∷ rest) e; is = refl; out = v; picked = refl; stood = names.stands s rest e; neighbours = q }))
      (closed_cases v st e x y p))
      (λ j. let l = j.before in
      inr (record { after = suc j.after; before = omega arith; stage = j.stage; is = j.is; out = j.out; picked = j.picked; stood = j.stood; neighbours = j.neighbours }))
      (origin k st (closed v st e) x y h)
