-- The number of a name among lots.
use Rattle.std.proofs.Common.{◌≡◌, ℕ, suc, ◌+◌, ◌<◌, ◌≤◌, Bool, true, false, cond, ltb, not as flip, List, [], ◌∷◌, ◌++◌, length, get_or, Some, None, Option, is_some, refl, sym, ap, ◌∙◌, arith, length-append}
use Rattle.std.proofs.lemmas.Bool.{cond-true, cond-false, eq-eqb, ne_eqb, ltb-true, ltb-false, le-leb, lt-leb, leb-false, false≢true}
use Rattle.std.proofs.lemmas.List.Folds.{prefix_len-append, position_or_len_push}
use Rattle.std.proofs.lemmas.List.Sums.{prefix_len-le-length, passes_at_first}
use Rattle.std.proofs.lemmas.Option.{cond_some, slice_get-get_or}
use Rattle.std.specs.List.{position, position_or_len}
use Rattle.grammar.specs.declared.name.Name.{Name}
use Rattle.grammar.proofs.Same.{same_self, same_is}
use Rattle.rules.specs.Items.{item}
use Rattle.rules.specs.Numbers.{is_name, no_name, lot_of, is_lot, lot_found}

-- a lot has the name
abbrev pub Known : Name → List Name → Type 0
Known n ls = lot_of n ls ≤ length ls

pub equal_names : (a b : Name) → is_name a b ≡ true → a ≡ b
equal_names a b e = ap (λ (bs : List ℕ). record { bytes = bs }) (same_is a.bytes b.bytes e)

-- the first lot has it, or the search goes on behind
pub lot_step : (n m : Name) (ms : List Name) → lot_of n (m ∷ ms) ≡ cond (is_name m n) 1 (suc (lot_of n ms))
lot_step n m ms = go (is_name m n)
  where
    go : (b : Bool) → suc (cond (flip b) (1 + position_or_len (λ k. is_name k n) ms) 0) ≡ cond b 1 (suc (lot_of n ms))
    go true = refl
    go false = omega arith

module _ (n : Name) (ls : List Name) where
  -- its index, from 0, or the length
  abbrev place : ℕ
  place = position_or_len (λ m. is_name m n) ls

  pub lot_more : (more : List Name) → Known n ls → lot_of n (ls ++ more) ≡ lot_of n ls
  lot_more more h = ap suc (prefix_len-append (λ m. flip (is_name m n)) ls more ∙ cond-false _ _ _ (ne_eqb place (length ls) (λ (e : place ≡ length ls). let z : ⊥ = omega arith in z)))

  pub known_more : (more : List Name) → Known n ls → Known n (ls ++ more)
  known_more more h = omega (arith, lot_more more h, length-append ls more)

  -- one more lot, where none had the name: it has it, or it does not either
  one_more : (m : Name) → length ls < lot_of n ls → lot_of n (ls ++ m ∷ []) ≡ suc (length ls + cond (is_name m n) 0 1)
  one_more m h =
      ap suc (position_or_len_push (λ k. is_name k n) ls m ∙ cond-true _ _ _ (eq-eqb place (length ls) (omega (arith, prefix_len-le-length (λ k. flip (is_name k n)) ls))))

  pub lot_last : length ls < lot_of n ls → lot_of n (ls ++ n ∷ []) ≡ suc (length ls)
  lot_last h = omega (arith, one_more n h, cond-true {A = ℕ} _ 0 1 (same_self n.bytes))

  pub lot_other : (m : Name) → length ls < lot_of n ls → is_name m n ≡ false → length (ls ++ m ∷ []) < lot_of n (ls ++ m ∷ [])
  lot_other m h e = omega (arith, one_more m h, cond-false {A = ℕ} _ 0 1 e, length-append ls (m ∷ []))

  -- the lot that a name is has the name
  pub lot_item : Known n ls → item (lot_of n ls) ls ≡ Some n
  lot_item h = slice_get-get_or ls _ no_name h ∙ ap Some (equal_names (get_or ls _ no_name) n (passes_at_first (λ m. is_name m n) ls no_name h))

  -- what is answered, by the index that was found
  pub number_found : (i : ℕ) → position (λ m. is_name m n) ls ≡ Some i → lot_found n ls ≡ Some (i + 1)
  number_found i e =
      let p = cond_some (ltb place (length ls)) place i e in
      cond-true _ _ _ (le-leb (lot_of n ls) (length ls) (ltb-true place (length ls) p.0)) ∙ ap Some (let z : suc place ≡ i + 1 = omega (arith, p.1) in z)

  pub number_none : position (λ m. is_name m n) ls ≡ None → lot_found n ls ≡ None
  number_none e = go (ltb place (length ls)) refl e
    where
      go : (b : Bool) → ltb place (length ls) ≡ b → ◌≡◌ {A = Option ℕ} (cond b (Some place) None) None → lot_found n ls ≡ None
      go true h s = absurd (let z : ◌≡◌ {A = ℕ} 0 1 = cc in omega arith)
      go false h s = let l = ltb-false place (length ls) h in cond-false _ _ _ (lt-leb (lot_of n ls) (length ls) (omega arith))

  pub not_found : (r : Option ℕ) → r ≡ lot_found n ls → is_some r ≡ false → length ls < lot_of n ls
  not_found r e h = go (is_lot n ls) refl (sym (ap is_some e) ∙ h)
    where
      go : (b : Bool) → is_lot n ls ≡ b → is_some (cond b (Some (lot_of n ls)) None) ≡ false → length ls < lot_of n ls
      go true l s = absurd (false≢true (sym s))
      go false l s = leb-false (lot_of n ls) (length ls) l
