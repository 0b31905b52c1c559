-- What is spelt is found, and what is wrong is found to be wrong.
use Rattle.std.proofs.Common.{◌≡◌, ℕ, zero, suc, ◌+◌, ◌≤◌, Bool, true, false, ◌≢◌, List, [], ◌∷◌, ◌++◌, length, drop, Some, None, Ok, Err, Option, sym, refl, ap, ◌∙◌, subst, append_assoc, append-nil, add-zero, arith}
use mathlib.Core.Bool.{false≢true}
use Rattle.std.proofs.lemmas.Bool.{cond-true, cond-false}
use Rattle.std.proofs.lemmas.List.{length-drop}
use Rattle.grammar.specs.declared.state.State.{State}
use Rattle.grammar.specs.declared.token.Token.{Token}
use Rattle.grammar.specs.Automaton.{step, run, ended, complete}
use Rattle.grammar.proofs.Prefixes.{run_lost}
use Rattle.reading.specs.Bytes.{edge, tight}
use Rattle.reading.specs.Spells.{TokenAt, Apart, Spelt, here, space, token}
use Rattle.reading.specs.Faults.{Cause, not_apart, no_token, long_name, out_of_grammar, unfinished}
use Rattle.reading.specs.declared.fault.RuleFault.{RuleFault}
use Rattle.reading.specs.declared.fault.RuleFault.TheVariants.{Text}
use Rattle.reading.specs.declared.fault.TextFault.TheVariants.{WrongByte}
use Rattle.reading.specs.Scan.{Lexeme, none, over, got, Kind, gap, opening, closing, small, big, strange, kind, lexeme, Scanned, prefixed, allowed, Go, taken, moved, scan_from}
use Rattle.reading.proofs.Tests.{inner, solid, edge_inner, inner_edge, space_gap, no_gap, upper_kind}
use Rattle.reading.proofs.Tokens.{Found, found, lexed, long_over}
use Rattle.reading.proofs.Outcomes.{Explained}

-- the bytes of a token are passed over
pub skipped : (k : ℕ) (bs : List ℕ) (t : Bool) (at : ℕ) (s : State) → k ≤ length bs → scan_from k t at s bs ≡ scan_from 0 t (at + k) s (drop k bs)
unfolding scan_from
skipped zero bs t at s h = ap (λ x. scan_from 0 t x s bs) (sym (add-zero at))
skipped (suc k) [] t at s h = absurd (let z : ⊥ = omega arith in z)
skipped (suc k) (b ∷ bs) t at s h =
    skipped k bs t (at + 1) s (omega arith) ∙ ap (λ x. scan_from 0 t x s (drop k bs)) (let z : at + 1 + k ≡ at + suc k = omega arith in z)

loose : (t : Bool) (b : ℕ) → (t ≡ true → edge b ≡ true) → edge b ≡ false → t ≡ false
loose true b h e = absurd (false≢true (sym e ∙ h refl))
loose false b h e = refl

module _ (b : ℕ) (bs : List ℕ) (t : Bool) (at : ℕ) (s : State) where
  moved_taken : Apart t (b ∷ bs) → (k : Kind) → kind b ≡ k → k ≢ gap
      → moved t at s k (lexeme at k b bs) (λ n u q. scan_from n u (at + 1) q bs) ≡ taken at s (lexeme at k b bs) (λ n u q. scan_from n u (at + 1) q bs)
  moved_taken a gap e g = absurd (g refl)
  moved_taken a opening e g = refl
  moved_taken a closing e g = refl
  moved_taken a small e g = cond-false t _ _ (loose t b a (edge_inner b (ap inner e)))
  moved_taken a big e g = cond-false t _ _ (loose t b a (edge_inner b (ap inner e)))
  moved_taken a strange e g = refl

  -- a byte that is no space and stands where it may: the token there is given to the grammar
  pub step_taken : Apart t (b ∷ bs) → kind b ≢ gap → (x : Lexeme) → lexeme at (kind b) b bs ≡ x
      → scan_from 0 t at s (b ∷ bs) ≡ taken at s x (λ n u q. scan_from n u (at + 1) q bs)
  unfolding scan_from
  step_taken a g x e =
      moved_taken a (kind b) refl g ∙ ap (λ y. taken at s y (λ n u q. scan_from n u (at + 1) q bs)) e

moved_wrong : (at : ℕ) (s : State) (x : Lexeme) (go : Go) (k : Kind) → inner k ≡ true → moved true at s k x go ≡ Err (Text (WrongByte at))
moved_wrong at s x go gap h = absurd (false≢true h)
moved_wrong at s x go opening h = absurd (false≢true h)
moved_wrong at s x go closing h = absurd (false≢true h)
moved_wrong at s x go small h = refl
moved_wrong at s x go big h = refl
moved_wrong at s x go strange h = refl

-- right behind a word or a name, a byte that is no edge is wrong
pub step_wrong : (b : ℕ) (bs : List ℕ) (t : Bool) (at : ℕ) (s : State) → t ≡ true → edge b ≡ false → scan_from 0 t at s (b ∷ bs) ≡ Err (Text (WrongByte at))
unfolding scan_from
step_wrong b bs t at s h e =
    ap (λ x. scan_from 0 x at s (b ∷ bs)) h
    ∙ moved_wrong at s (lexeme at (kind b) b bs) (λ n u q. scan_from n u (at + 1) q bs) (kind b) (inner_edge b e)

pub prefixed_none : (r : Scanned) → prefixed [] r ≡ r
prefixed_none (Ok ks) = refl
prefixed_none (Err f) = refl

pub prefixed_twice : (xs ys : List Token) (r : Scanned) → prefixed xs (prefixed ys r) ≡ prefixed (xs ++ ys) r
prefixed_twice xs ys (Ok ks) = ap Ok (sym (append_assoc xs ys ks))
prefixed_twice xs ys (Err f) = refl

-- one token that is spelt
one_token : (u : Bool) (at next : ℕ) (bs rest : List ℕ) (k : Token) (s q : State) → Apart u bs → TokenAt at bs k rest → next + length rest ≡ at + length bs → step s k ≡ Some q
    → scan_from 0 u at s bs ≡ prefixed (k ∷ []) (scan_from 0 (tight k) next q rest)
one_token u at next bs rest k s q a x e l =
    let g = lexed x in
    let b : ℕ = g.first in
    let cs : List ℕ = g.others in
    let n : ℕ = g.count in
    let d = length-drop n cs in
    let fit = g.fits in
    let m : at + 1 + n ≡ next = omega (arith, ap length g.split, ap length g.leaves) in
    ap (λ y. scan_from 0 u at s y) g.split
    ∙ step_taken b cs u at s (subst (Apart u) g.split a) (no_gap b g.no_space) (got k n) g.is
    ∙ ap (λ o. allowed at k o (λ v. scan_from n (tight k) (at + 1) v cs)) l
    ∙ ap (prefixed (k ∷ [])) (skipped n cs (tight k) (at + 1) q fit
    ∙ ap (λ y. scan_from 0 (tight k) y q (drop n cs)) m ∙ ap (scan_from 0 (tight k) next q) g.leaves)

-- tokens that lead somewhere are taken from the first on
taken_first : (o : Option State) (ts : List Token) (q : State) → run o ts ≡ Some q → (v : State) × (o ≡ Some v)
taken_first None ts q h = absurd (let e = run_lost ts in let z : ⊥ = cc in z)
taken_first (Some v) ts q h = (v, refl)

-- what is spelt is passed over token by token
pub follows : {p : ℕ} {r : List ℕ} {t u : Bool} {at : ℕ} {bs : List ℕ} {ts : List Token} → Spelt p r t u at bs ts → (s q : State) → run (Some s) ts ≡ Some q
    → scan_from 0 u at s bs ≡ prefixed ts (scan_from 0 t p q r)
unfolding scan_from
follows {p} {r} {t} here s q h = sym (prefixed_none (scan_from 0 t p s r)) ∙ ap (λ v. prefixed [] (scan_from 0 t p v r)) (let e : s ≡ q = cc in e)
follows (space x) s q h = follows x s q h
follows {p} {r} {t} {u} (token {q = at} {next = next} {bs = bs} {rest = rest} {k = k} {ts = ts} a x e y) s q h =
    let v = taken_first (step s k) ts q h in
    one_token u at next bs rest k s v.0 a x e v.1
    ∙ ap (prefixed (k ∷ [])) (follows y v.0 q (sym (ap (λ o. run o ts) v.1) ∙ h))
    ∙ prefixed_twice (k ∷ []) ts (scan_from 0 t p q r)

-- the cause of a fault makes the fault
caused : (s : State) {t : Bool} {p : ℕ} {r : List ℕ} {f : RuleFault} → Cause (λ k. step s k ≡ None) (ended s ≡ false) t p r f → scan_from 0 t p s r ≡ Err f
unfolding scan_from
caused s {t} {p} (not_apart {b = b} {bs = bs} h e) = step_wrong b bs t p s h e
caused s {t} {p} (no_token {b = b} {bs = bs} a n no_spelt no_long) =
    step_taken b bs t p s a (space_gap b n) none (is_none (lexeme p (kind b) b bs) (found p b bs))
  where
    is_none : (x : Lexeme) → Found p b bs x → x ≡ none
    is_none none h = refl
    is_none over h = absurd (no_long h)
    is_none (got k m) h = absurd (no_spelt k _ h.0)
caused s {t} {p} (long_name {bs = []} a h) = absurd h
caused s {t} {p} (long_name {bs = b ∷ bs} a h) = step_taken b bs t p s a (no_gap b (ap solid (upper_kind b h.0))) over (long_over p b bs h)
caused s {t} {p} (out_of_grammar {bs = xs} {k = k} a x l) =
    let g = lexed x in
    ap (λ y. scan_from 0 t p s y) g.split
    ∙ step_taken g.first g.others t p s (subst (Apart t) g.split a) (no_gap g.first g.no_space) (got k g.count) g.is
    ∙ ap (λ o. allowed p k o (λ q. scan_from g.count (tight k) (p + 1) q g.others)) l
caused s {t} {p} (unfinished e) = cond-false (ended s) _ _ e

pub explained_back : (u : Bool) (s : State) (at : ℕ) (bs : List ℕ) (f : RuleFault) → Explained u s at bs f → scan_from 0 u at s bs ≡ Err f
explained_back u s at bs f x = follows x.4 s x.5 x.6 ∙ ap (prefixed x.0) (caused x.5 x.7)

complete_some : (o : Option State) → complete o ≡ true → (q : State) × (o ≡ Some q) × (ended q ≡ true)
complete_some None h = absurd (false≢true h)
complete_some (Some q) h = (q, refl, h)

pub accepted_back : (u t : Bool) (s : State) (at end : ℕ) (bs : List ℕ) (ts : List Token) → Spelt end [] t u at bs ts → complete (run (Some s) ts) ≡ true
    → scan_from 0 u at s bs ≡ Ok ts
unfolding scan_from
accepted_back u t s at end bs ts x h =
    let g = complete_some (run (Some s) ts) h in
    follows x s g.0 g.1 ∙ ap (prefixed ts) (cond-true (ended g.0) _ _ g.2) ∙ ap Ok (append-nil ts)
