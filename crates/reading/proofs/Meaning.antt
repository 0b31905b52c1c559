-- The reading that is worked out is the one that the grammar gives, and no other answer is.
use Rattle.std.proofs.Common.{◌≡◌, ℕ, ◌≤◌, Bool, true, false, cond, ltb, List, length, Ok, Err, sym, refl, ap, ◌∙◌, subst, zero-add, arith}
use Rattle.std.proofs.lemmas.Bool.{cond-true, cond-false, ltb-true, ltb-false, lt-ltb, le-ltb}
use Rattle.grammar.specs.declared.level.Level.TheVariants.{Rule}
use Rattle.grammar.specs.declared.state.State.TheVariants.{WantPart}
use Rattle.grammar.specs.declared.token.Token.{Token}
use Rattle.grammar.specs.Grammar.{Is}
use Rattle.grammar.specs.Names.{Phrase}
use Rattle.grammar.specs.Words.{words}
use Rattle.grammar.specs.Parser.{parse}
use Rattle.grammar.proofs.Complete.{accepts, parsed}
use Rattle.grammar.proofs.Sound.{derived}
use Rattle.reading.specs.Answers.{Answer, Answers, too_long, faulty, too_many, taken}
use Rattle.reading.specs.Reading.{from_parse, from_scan, reading}
use Rattle.reading.specs.Scan.{Scanned, scanned}
use Rattle.reading.specs.Spells.{Spells}
use Rattle.reading.specs.declared.fault.RuleFault.TheVariants.{Text, TooManyNodes}
use Rattle.reading.specs.declared.fault.TextFault.TheVariants.{LineTooLong}
use Rattle.reading.proofs.Outcomes.{Outcome, outcome}
use Rattle.reading.proofs.Follows.{explained_back, accepted_back}
use Rattle.reading.proofs.Grammatical as grammatical

module _ (bs : List ℕ) where
  from_outcome : length bs ≤ 512 → (r : Scanned) → Outcome (length bs) false (WantPart 0) 0 bs r → Answers bs (from_scan r)
  from_outcome l (Err f) h = faulty l (grammatical.faulty bs f h)
  from_outcome l (Ok ts) h = go (ltb 32 (words ts)) refl
    where
      go : (b : Bool) → ltb 32 (words ts) ≡ b → Answers bs (cond b (Err (TooManyNodes (words ts))) (from_parse (parse ts)))
      go true e = let t = derived ts h.1 in too_many l h.0 t.1 (ltb-true 32 (words ts) e)
      go false e =
          let t = derived ts h.1 in
          subst (λ o. Answers bs (from_parse o)) (sym (parsed t.1)) (taken l h.0 t.1 (ltb-false 32 (words ts) e))

  -- the answer that is worked out is one that the grammar gives
  pub answered : Answers bs (reading bs)
  answered = go (ltb 512 (length bs)) refl
    where
      go : (b : Bool) → ltb 512 (length bs) ≡ b → Answers bs (cond b (Err (Text LineTooLong)) (from_scan (scanned bs)))
      go true e = too_long (ltb-true 512 (length bs) e)
      go false e = from_outcome (ltb-false 512 (length bs) e) (scanned bs) (outcome (length bs) bs 0 false 0 0 (WantPart 0) (omega arith) refl (zero-add (length bs)))

  spelt_scan : (ts : List Token) (t : Phrase) → Spells bs ts → Is Rule ts t → scanned bs ≡ Ok ts
  spelt_scan ts t x y =
      accepted_back false x.0 (WantPart 0) 0 (length bs) bs ts x.1 (accepts y)

  short : (r : Scanned) → length bs ≤ 512 → scanned bs ≡ r → reading bs ≡ from_scan r
  short r l e = cond-false (ltb 512 (length bs)) _ _ (le-ltb 512 (length bs) l) ∙ ap from_scan e

  -- and it is the only one
  pub only : (x : Answer) → Answers bs x → x ≡ reading bs
  only x (too_long l) = sym (cond-true (ltb 512 (length bs)) _ _ (lt-ltb 512 (length bs) l))
  only x (faulty {f = f} l h) = sym (short (Err f) l (explained_back false (WantPart 0) 0 bs f (grammatical.faulty_back bs f h)))
  only x (too_many {ts = ts} {t = t} l h y w) = sym (short (Ok ts) l (spelt_scan ts t h y) ∙ cond-true (ltb 32 (words ts)) _ _ (lt-ltb 32 (words ts) w))
  only x (taken {ts = ts} {t = t} l h y w) =
      sym (short (Ok ts) l (spelt_scan ts t h y) ∙ cond-false (ltb 32 (words ts)) _ _ (le-ltb 32 (words ts) w) ∙ ap from_parse (parsed y))
