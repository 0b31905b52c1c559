-- The public call: each way out is the answer that is worked out.
use Rattle.std.proofs.Common.{◌≡◌, ℕ, ◌<◌, ◌≤◌, Bool, true, false, cond, ltb, List, length, IsSomeAnd, Some, None, Ok, Err, Option, Result, sym, refl, ap, ◌∙◌, subst, zero-add, arith}
use Rattle.std.proofs.lemmas.Bool.{cond-true, cond-false, ltb-false, lt-ltb, le-ltb}
use Rattle.grammar.specs.declared.state.State.TheVariants.{WantPart}
use Rattle.grammar.specs.declared.token.Token.{Token}
use Rattle.grammar.specs.Automaton.{accepted}
use Rattle.grammar.specs.Names.{Phrase}
use Rattle.grammar.specs.Parser.{parse}
use Rattle.grammar.specs.Readings.{Reading, reading_of}
use Rattle.grammar.specs.Words.{words, Rising}
use Rattle.reading.specs.Answers.{Answer, Answers}
use Rattle.reading.specs.Lengths.{fitting}
use Rattle.reading.specs.Reading.{from_parse, from_scan, reading}
use Rattle.reading.specs.Scan.{scanned}
use Rattle.reading.specs.declared.fault.RuleFault.{RuleFault}
use Rattle.reading.specs.declared.fault.RuleFault.TheVariants.{Text, TooManyNodes}
use Rattle.reading.specs.declared.fault.TextFault.{TextFault}
use Rattle.reading.specs.declared.fault.TextFault.TheVariants.{LineTooLong}
use Rattle.reading.proofs.Counted.{spelt_rising}
use Rattle.reading.proofs.Meaning.{answered, only}
use Rattle.reading.proofs.Outcomes.{Outcome, outcome}

-- what the call owes of its answer
abbrev pub Owed : List ℕ → Answer → Type 0
Owed bs x = (x ≡ reading bs) × Answers bs x × ((y : Answer) → Answers bs y → y ≡ x)

pub owed : (bs : List ℕ) (x : Answer) → x ≡ reading bs → Owed bs x
owed bs x e = (e, subst (Answers bs) (sym e) (answered bs), (λ y h. only bs y h ∙ sym e))

pub fits : (bs : List ℕ) → fitting bs ≡ Ok tt → length bs ≤ 512
fits bs e = go (ltb 512 (length bs)) refl e
  where
    go : (t : Bool) → ltb 512 (length bs) ≡ t → ◌≡◌ {A = Result (Unit {0}) TextFault} (cond t (Err LineTooLong) (Ok tt)) (Ok tt) → length bs ≤ 512
    go true f g = absurd (let z : ⊥ = cc in z)
    go false f g = ltb-false 512 (length bs) f

pub unfit : (bs : List ℕ) (f : TextFault) → fitting bs ≡ Err f → Owed bs (Err (Text f))
unfit bs f e = go (ltb 512 (length bs)) refl e
  where
    go : (t : Bool) → ltb 512 (length bs) ≡ t → ◌≡◌ {A = Result (Unit {0}) TextFault} (cond t (Err LineTooLong) (Ok tt)) (Err f) → Owed bs (Err (Text f))
    go true g h =
        let s : LineTooLong ≡ f = cc in
        owed bs (Err (Text f)) (ap (λ x. Err (Text x)) (sym s) ∙ sym (cond-true (ltb 512 (length bs)) _ _ g))
    go false g h = absurd (let z : ⊥ = cc in z)

module _ (bs : List ℕ) (l : length bs ≤ 512) where
  short : reading bs ≡ from_scan (scanned bs)
  short = cond-false (ltb 512 (length bs)) _ _ (le-ltb 512 (length bs) l)

  pub wrong : (f : RuleFault) → Err f ≡ scanned bs → Owed bs (Err f)
  wrong f e = owed bs (Err f) (ap from_scan e ∙ sym short)

  module _ (ts : List Token) (e : Ok ts ≡ scanned bs) where
    -- tokens that were found are a rule, and their words rise
    pub well : (accepted ts ≡ true) × Rising 0 512 ts
    well =
        let o : Outcome (length bs) false (WantPart 0) 0 bs (Ok ts) =
        subst (Outcome (length bs) false (WantPart 0) 0 bs) (sym e) (outcome (length bs) bs 0 false 0 0 (WantPart 0) (omega arith) refl (zero-add (length bs))) in
        (o.1, spelt_rising o.0.1 512 (omega arith))

    from_here : reading bs ≡ cond (ltb 32 (words ts)) (Err (TooManyNodes (words ts))) (from_parse (parse ts))
    from_here = short ∙ ap from_scan (sym e)

    pub many : (n : ℕ) → n ≡ words ts → 32 < n → Owed bs (Err (TooManyNodes n))
    many n w h =
        owed bs (Err (TooManyNodes n)) (ap (λ k. Err (TooManyNodes k)) w ∙ sym (from_here ∙ cond-true (ltb 32 (words ts)) _ _ (lt-ltb 32 (words ts) (omega (arith, w)))))

    from_some : (o : Option Phrase) (x : Reading) → IsSomeAnd o (λ t. x ≡ reading_of t) → Ok x ≡ from_parse o
    from_some None x h = absurd h
    from_some (Some t) x h = ap Ok h

    pub said_so : (x : Reading) → words ts ≤ 32 → IsSomeAnd (parse ts) (λ t. x ≡ reading_of t) → Owed bs (Ok x)
    said_so x h s =
        owed bs (Ok x) (from_some (parse ts) x s ∙ sym (from_here ∙ cond-false (ltb 32 (words ts)) _ _ (le-ltb 32 (words ts) h)))
