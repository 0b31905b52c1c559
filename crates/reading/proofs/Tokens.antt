-- Tokens as they are found, and as they are spelt.
use Rattle.std.proofs.Common.{◌≡◌, ℕ, ◌≤◌, Bool, true, false, cond, leb, List, [], ◌∷◌, ◌++◌, length, drop, Some, None, Option, sym, refl, ap, ◌∙◌, subst, ⊎_elim, append-nil, arith, length-append}
use Rattle.std.proofs.Math.Seq.{drop-append_seam}
use Rattle.std.proofs.lemmas.Bool.{cond-true, cond-false, le-leb, lt-leb, leb-true, leb-false}
use Rattle.grammar.specs.declared.token.Token.{Token}
use Rattle.grammar.specs.declared.token.Token.TheVariants.{Open, Close, Name}
use Rattle.grammar.specs.Names.{same, stored}
use Rattle.grammar.proofs.Same.{same_is}
use Rattle.reading.specs.Bytes.{lower, upper, Word, with, not, and, or, then, letters, word_token}
use Rattle.reading.specs.Decoding.{spellings}
use Rattle.reading.specs.Spells.{WordEnds, TokenAt, opens, closes, word, name, LongName}
use Rattle.reading.specs.Scan.{run_of, word_of, decoded, Lexeme, none, over, got, Kind, gap, opening, closing, small, big, strange, kind, worded, name_lexeme, lexeme}
use Rattle.reading.proofs.Tests.{inv_cond, upper_kind, OfKind, of_kind, solid}
use Rattle.reading.proofs.Decoded.{decoded_runs, runs_decoded}

-- letters up to the end of their run
pub run_split : (bs : List ℕ) → (run_of bs ++ drop (length (run_of bs)) bs ≡ bs) × (length (run_of bs) ≤ length bs) × WordEnds (drop (length (run_of bs)) bs)
run_split [] = (refl, omega arith, tt)
run_split (b ∷ bs) = go (lower b) refl (run_split bs)
  where
    go : (t : Bool) → lower b ≡ t → (run_of bs ++ drop (length (run_of bs)) bs ≡ bs) × (length (run_of bs) ≤ length bs) × WordEnds (drop (length (run_of bs)) bs)
        → (cond t (b ∷ run_of bs) [] ++ drop (length (cond t (b ∷ run_of bs) [])) (b ∷ bs) ≡ b ∷ bs) × (length (cond t (b ∷ run_of bs) []) ≤ length (b ∷ bs))
        × WordEnds (drop (length (cond t (b ∷ run_of bs) [])) (b ∷ bs))
    go true e h = (ap (λ s. b ∷ s) h.0, omega arith, h.2)
    go false e h = (refl, omega arith, e)

pub run_stops : (r : List ℕ) → WordEnds r → run_of r ≡ []
run_stops [] e = refl
run_stops (b ∷ r) e = cond-false (lower b) _ _ e

some_word : {v w : Word} → Some v ≡ Some w → v ≡ w
some_word e = cc

word_try : (ws : List ℕ) (v w : Word) (o : Option Word) → cond (same ws (letters v)) (Some v) o ≡ Some w → (o ≡ Some w → ws ≡ letters w) → ws ≡ letters w
word_try ws v w o e f = ⊎_elim
    (λ h. same_is ws (letters v) h.0 ∙ ap letters (some_word h.1))
    (λ h. f h.1)
    (inv_cond (same ws (letters v)) e)

pub word_of_is : (ws : List ℕ) (w : Word) → word_of ws ≡ Some w → ws ≡ letters w
word_of_is ws w e =
    word_try ws with w _ e (λ e₁. word_try ws not w _ e₁ (λ e₂. word_try ws and w _ e₂ (λ e₃. word_try ws or w _ e₃ (λ e₄. word_try ws then w _ e₄ (λ e₅. cc e₅)))))

-- a token that is found is spelt
abbrev pub Found : ℕ → ℕ → List ℕ → Lexeme → Type 0
Found at b bs none = Unit {0}
Found at b bs over = LongName (b ∷ bs)
Found at b bs (got k n) = TokenAt at (b ∷ bs) k (drop n bs) × (n ≤ length bs)

found_word : (at b : ℕ) (bs : List ℕ) (o : Option Word) → word_of (b ∷ run_of bs) ≡ o → Found at b bs (worded at (length (run_of bs)) o)
found_word at b bs None e = tt
found_word at b bs (Some w) e =
    let p = run_split bs in
    let l = word_of_is (b ∷ run_of bs) w e in
    let whole : letters w ++ drop (length (run_of bs)) bs ≡ b ∷ bs = ap (λ x. x ++ drop (length (run_of bs)) bs) (sym l) ∙ ap (λ x. b ∷ x) p.0 in
    (subst (λ x. TokenAt at x (word_token w at) (drop (length (run_of bs)) bs)) whole (word w p.2), p.1)

found_name : (at b : ℕ) (bs : List ℕ) → upper b ≡ true → (t : Bool) → leb 12 (length (decoded spellings 0 bs).0) ≡ t
    → Found at b bs (cond t over (got (Name (record { place = at; name = stored (b ∷ (decoded spellings 0 bs).0) })) (decoded spellings 0 bs).1))
found_name at b bs u true e =
    let d = decoded_runs spellings bs 0 (omega arith) in
    (u, (drop (decoded spellings 0 bs).1 bs, (decoded spellings 0 bs).0, d.1, leb-true 12 _ e))
found_name at b bs u false e =
    let d = decoded_runs spellings bs 0 (omega arith) in
    (name u d.1 (leb-false 12 _ e), d.0)

found_kind : (at b : ℕ) (bs : List ℕ) (k : Kind) → OfKind b k → Found at b bs (lexeme at k b bs)
found_kind at b bs gap h = tt
found_kind at b bs opening h = (subst (λ x. TokenAt at (x ∷ bs) Open bs) (sym h) opens, omega arith)
found_kind at b bs closing h = (subst (λ x. TokenAt at (x ∷ bs) Close bs) (sym h) closes, omega arith)
found_kind at b bs small h = found_word at b bs (word_of (b ∷ run_of bs)) refl
found_kind at b bs big h = found_name at b bs h (leb 12 (length (decoded spellings 0 bs).0)) refl
found_kind at b bs strange h = tt

pub found : (at b : ℕ) (bs : List ℕ) → Found at b bs (lexeme at (kind b) b bs)
found at b bs = found_kind at b bs (kind b) (of_kind b)

-- a token that is spelt is found
pub record Lexed (at : ℕ) (xs : List ℕ) (k : Token) (r : List ℕ) : Type 0 where
  pub first : ℕ
  pub others : List ℕ
  pub count : ℕ
  pub split : xs ≡ first ∷ others
  pub is : lexeme at (kind first) first others ≡ got k count
  pub fits : count ≤ length others
  pub leaves : drop count others ≡ r
  pub no_space : solid (kind first) ≡ true

lexed_word : (at : ℕ) (w : Word) (b : ℕ) (t r : List ℕ) → kind b ≡ small → ((z : List ℕ) → run_of (t ++ z) ≡ t ++ run_of z) → word_of (b ∷ t) ≡ Some w
    → WordEnds r → Lexed at (b ∷ (t ++ r)) (word_token w at) r
lexed_word at w b t r k f g e =
    let z : run_of (t ++ r) ≡ t = f r ∙ ap (λ y. t ++ y) (run_stops r e) ∙ append-nil t in
    record {
      first = b;
      others = t ++ r;
      count = length t;
      split = refl;
      is = ap (λ y. lexeme at y b (t ++ r)) k
          ∙ ap (λ y. worded at (length y) (word_of (b ∷ y))) z
          ∙ ap (worded at (length t)) g;
      fits = omega (arith, length-append t r);
      leaves = drop-append_seam t r;
      no_space = ap solid k;
    }

pub lexed : {at : ℕ} {xs r : List ℕ} {k : Token} → TokenAt at xs k r → Lexed at xs k r
lexed {at} (opens {r = r}) = record { first = 40; others = r; count = 0; split = refl; is = refl; fits = omega arith; leaves = refl; no_space = refl }
lexed {at} (closes {r = r}) = record { first = 41; others = r; count = 0; split = refl; is = refl; fits = omega arith; leaves = refl; no_space = refl }
lexed {at} (word {r = r} with e) = lexed_word at with 119 (105 ∷ 116 ∷ 104 ∷ []) r refl (λ z. refl) refl e
lexed {at} (word {r = r} not e) = lexed_word at not 110 (111 ∷ 116 ∷ []) r refl (λ z. refl) refl e
lexed {at} (word {r = r} and e) = lexed_word at and 97 (110 ∷ 100 ∷ []) r refl (λ z. refl) refl e
lexed {at} (word {r = r} or e) = lexed_word at or 111 (114 ∷ []) r refl (λ z. refl) refl e
lexed {at} (word {r = r} then e) = lexed_word at then 116 (104 ∷ 101 ∷ 110 ∷ []) r refl (λ z. refl) refl e
lexed {at} (name {b = b} {bs = bs} {n = n} u x l) =
    let g = runs_decoded spellings x in
    record {
      first = b;
      others = bs;
      count = g.count;
      split = refl;
      is = ap (λ y. lexeme at y b bs) (upper_kind b u)
          ∙ ap (name_lexeme at b) g.is
          ∙ cond-false (leb 12 (length n)) _ _ (lt-leb 12 (length n) l);
      fits = g.fits;
      leaves = g.leaves;
      no_space = ap solid (upper_kind b u);
    }

pub long_over : (at b : ℕ) (bs : List ℕ) → LongName (b ∷ bs) → lexeme at (kind b) b bs ≡ over
long_over at b bs h =
    let g = runs_decoded spellings h.1.2 in
    ap (λ y. lexeme at y b bs) (upper_kind b h.0)
    ∙ ap (name_lexeme at b) g.is
    ∙ cond-true (leb 12 (length h.1.1)) _ _ (le-leb 12 (length h.1.1) h.1.3)

-- where no token is found none is spelt, and no name that is too long
pub none_spelt : (at b : ℕ) (bs : List ℕ) → lexeme at (kind b) b bs ≡ none → (k : Token) (r : List ℕ) → TokenAt at (b ∷ bs) k r → ⊥
none_spelt at b bs e k r x =
    let g = lexed x in
    let f : lexeme at (kind b) b bs ≡ got k g.count = subst (λ (y : ℕ × List ℕ). lexeme at (kind y.0) y.0 y.1 ≡ got k g.count) (head_tail (sym g.split)) g.is in
    let z : ⊥ = cc (sym e ∙ f) in z
  where
    head_tail : {x y : ℕ} {xs ys : List ℕ} → x ∷ xs ≡ y ∷ ys → ◌≡◌ {A = ℕ × List ℕ} (x, xs) (y, ys)
    head_tail e = cc

pub none_long : (at b : ℕ) (bs : List ℕ) → lexeme at (kind b) b bs ≡ none → LongName (b ∷ bs) → ⊥
none_long at b bs e h = let z : ⊥ = cc (sym e ∙ long_over at b bs h) in z
