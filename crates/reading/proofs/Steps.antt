-- One step of the scanner's loop.
use Rattle.std.proofs.Common.{◌≡◌, ℕ, suc, ◌+◌, ◌-◌, ◌<◌, ◌≤◌, Bool, true, false, cond, ◌≢◌, List, [], ◌∷◌, ◌++◌, length, get_or, take, drop, Some, None, Ok, Err, Option, Result, sym, refl, ap, ◌∙◌, subst, append-nil, arith, length-append}
use mathlib.Core.Bool.{false≢true}
use Rattle.std.proofs.lemmas.List.{drop_more, drop-drop, drop_all, take_rest, length-drop}
use Rattle.std.specs.Option.{ok_or}
use Rattle.grammar.specs.declared.token.Token.{Token}
use Rattle.grammar.specs.declared.state.State.{State}
use Rattle.grammar.specs.declared.state.State.TheVariants.{WantPart}
use Rattle.grammar.specs.Automaton.{step, ended, depth}
use Rattle.reading.specs.declared.fault.RuleFault.{RuleFault}
use Rattle.reading.specs.declared.fault.RuleFault.TheVariants.{Text, OutOfGrammar}
use Rattle.reading.specs.declared.fault.TextFault.{TextFault}
use Rattle.reading.specs.declared.fault.TextFault.TheVariants.{WrongByte}
use Rattle.reading.specs.Bytes.{edge, tight}
use Rattle.reading.specs.Scan.{gap, kind, Lexeme, none, over, got, lexeme, Scanned, prefixed, allowed, taken, scan_from, scanned}
use Rattle.reading.specs.Spells.{Apart}
use Rattle.reading.specs.Lexing.{seen, seen_at, checked_at}
use Rattle.reading.proofs.Tests.{space_gap}
use Rattle.reading.proofs.Tokens.{Found, found}
use Rattle.reading.proofs.Follows.{skipped, step_taken, step_wrong, prefixed_none, prefixed_twice}
use Rattle.reading.proofs.Depths.{depth_step}

-- what follows once a token was looked for, and once the grammar has had it
abbrev pub on_state : (bs : List ℕ) (at : ℕ) → Token → ℕ → Option State → Scanned
on_state bs at k n None = Err (OutOfGrammar at)
on_state bs at k n (Some q) = prefixed (k ∷ []) (scan_from 0 (tight k) (at + n) q (drop n bs))

abbrev pub on_token : (bs : List ℕ) (at : ℕ) → State → Result (Token × ℕ) TextFault → Scanned
on_token bs at s (Ok p) = on_state bs at p.0 p.1 (step s p.0)
on_token bs at s (Err f) = Err (Text f)

module _ (b : ℕ) (bs : List ℕ) (at : ℕ) where
  go_on : (k : Token) (j : ℕ) (q : State) → j ≤ length bs
      → prefixed (k ∷ []) (scan_from j (tight k) (at + 1) q bs) ≡ prefixed (k ∷ []) (scan_from 0 (tight k) (at + (j + 1)) q (drop (j + 1) (b ∷ bs)))
  go_on k j q h =
      ap (prefixed (k ∷ []))
      (skipped j bs (tight k) (at + 1) q h
      ∙ ap (λ x. scan_from 0 (tight k) x q (drop j bs)) (let z : at + 1 + j ≡ at + (j + 1) = omega arith in z)
      ∙ ap (λ x. scan_from 0 (tight k) (at + (j + 1)) q (drop x (b ∷ bs))) (let z : suc j ≡ j + 1 = omega arith in z))

  at_state : (k : Token) (j : ℕ) (o : Option State) → j ≤ length bs
      → allowed at k o (λ q. scan_from j (tight k) (at + 1) q bs) ≡ on_state (b ∷ bs) at k (j + 1) o
  at_state k j None h = refl
  at_state k j (Some q) h = go_on k j q h

  at_lexeme : (s : State) (x : Lexeme) → Found at b bs x → taken at s x (λ n t q. scan_from n t (at + 1) q bs) ≡ on_token (b ∷ bs) at s (seen at x)
  at_lexeme s none h = refl
  at_lexeme s over h = refl
  at_lexeme s (got k j) h = at_state k j (step s k) h.1

  seen_step : (t : Bool) (s : State) → Apart t (b ∷ bs) → kind b ≢ gap → scan_from 0 t at s (b ∷ bs) ≡ on_token (b ∷ bs) at s (seen_at at (b ∷ bs))
  seen_step t s a g = step_taken b bs t at s a g (lexeme at (kind b) b bs) refl ∙ at_lexeme s (lexeme at (kind b) b bs) (found at b bs)

  pub one_step : (t : Bool) (s : State) → kind b ≢ gap → scan_from 0 t at s (b ∷ bs) ≡ on_token (b ∷ bs) at s (checked_at t at (b ∷ bs))
  one_step false s g = seen_step false s (λ e. absurd (false≢true e)) g
  one_step true s g = go (edge b) refl
    where
      go : (t : Bool) → edge b ≡ t → scan_from 0 true at s (b ∷ bs) ≡ on_token (b ∷ bs) at s (cond t (seen_at at (b ∷ bs)) (Err (WrongByte at)))
      go true e = seen_step true s (λ i. e) g
      go false e = step_wrong b bs true at s refl e

-- which fault it is, where a token is refused with a fault at hand
pub refused_with : (o : Option State) (e f : RuleFault) → ◌≡◌ {A = Result State RuleFault} (Err f) (ok_or o e) → o ≡ None → f ≡ e
refused_with None e f g h = cc
refused_with (Some q) e f g h = cc

-- the tokens so far, before those that are found from here on
pub record Scanning (line : List ℕ) (at : ℕ) (t : Bool) (s : State) (before : List Token) : Type 0 where
  pub so_far : prefixed before (scan_from 0 t at s (drop at line)) ≡ scanned line
  pub inside : at ≤ length line
  pub room : length before ≤ at
  pub shallow : depth s ≤ at

pub begins : (line : List ℕ) → Scanning line 0 false (WantPart 0) []
begins line = record { so_far = prefixed_none (scanned line); inside = omega arith; room = omega arith; shallow = omega arith }

module _ {line : List ℕ} {at : ℕ} {t : Bool} {s : State} {before : List Token} (x : Scanning line at t s before) where
  read_next : at < length line → get_or line at 0 ≢ 32 → prefixed before (on_token (drop at line) at s (checked_at t at (drop at line))) ≡ scanned line
  read_next h n =
      let d = drop_more line at 0 h in
      ap (prefixed before) (sym (subst (λ xs. scan_from 0 t at s xs ≡ on_token xs at s (checked_at t at xs)) (sym d) (one_step (get_or line at 0) (drop (at + 1) line) at t s (space_gap (get_or line at 0) n))))
      ∙ x.so_far

  module _ (h : at < length line) where
    pub read_space : get_or line at 0 ≡ 32 → Scanning line (at + 1) false s before
    unfolding scan_from
    read_space e =
        let r = x.room in
        let d = x.shallow in
        record {
          so_far = ap (λ xs. prefixed before (scan_from 0 t at s xs)) (sym (drop_more line at 0 h ∙ ap (λ b. b ∷ drop (at + 1) line) e)) ∙ x.so_far;
          inside = omega arith;
          room = omega arith;
          shallow = omega arith;
        }

    pub read_wrong : get_or line at 0 ≢ 32 → (f : TextFault) → Err f ≡ checked_at t at (take (length line - at) (drop at line)) → Err (Text f) ≡ scanned line
    read_wrong n f e =
        let g : checked_at t at (drop at line) ≡ Err f = ap (checked_at t at) (sym (take_rest line at)) ∙ sym e in
        sym (ap (λ r. prefixed before (on_token (drop at line) at s r)) g) ∙ read_next h n

    module _ (n : get_or line at 0 ≢ 32) (k : Token) (size : ℕ) (e : ◌≡◌ {A = Result (Token × ℕ) TextFault} (Ok (k, size)) (checked_at t at (take (length line - at) (drop at line)))) where
      on_this : prefixed before (on_state (drop at line) at k size (step s k)) ≡ scanned line
      on_this =
          let g : checked_at t at (drop at line) ≡ Ok (k, size) = ap (checked_at t at) (sym (take_rest line at)) ∙ sym e in
          sym (ap (λ r. prefixed before (on_token (drop at line) at s r)) g) ∙ read_next h n

      pub read_refused : step s k ≡ None → Err (OutOfGrammar at) ≡ scanned line
      read_refused g = sym (ap (λ r. prefixed before (on_state (drop at line) at k size r)) g) ∙ on_this

      pub read_token : (q : State) (u : Bool) (after : List Token) → step s k ≡ Some q → u ≡ tight k → after ≡ before ++ k ∷ [] → 0 < size → size ≤ length (take (length line - at) (drop at line))
          → Scanning line (at + size) u q after
      read_token q u after g i j some fits =
          let r = x.room in
          let d = x.shallow in
          let l = length-append before (k ∷ []) in
          record {
            so_far = ap (λ z. prefixed z (scan_from 0 u (at + size) q (drop (at + size) line))) j
                ∙ ap (λ z. prefixed (before ++ k ∷ []) (scan_from 0 z (at + size) q (drop (at + size) line))) i
                ∙ ap (λ z. prefixed (before ++ k ∷ []) (scan_from 0 (tight k) (at + size) q z)) (sym (drop-drop size at line))
                ∙ sym (prefixed_twice before (k ∷ []) (scan_from 0 (tight k) (at + size) q (drop size (drop at line))))
                ∙ sym (ap (λ o. prefixed before (on_state (drop at line) at k size o)) g)
                ∙ on_this;
            inside = omega (arith, ap length (take_rest line at), length-drop at line);
            room = omega (arith, ap length j);
            shallow = omega (arith, depth_step s q k g);
          }

  module _ (h : length line ≤ at) where
    read_end : prefixed before (cond (ended s) (Ok []) (Err (OutOfGrammar at))) ≡ scanned line
    unfolding scan_from
    read_end = ap (λ xs. prefixed before (scan_from 0 t at s xs)) (sym (drop_all at line h)) ∙ x.so_far

    pub ends_wrong : ended s ≡ false → Err (OutOfGrammar at) ≡ scanned line
    ends_wrong e = sym (ap (λ u. prefixed before (cond u (Ok []) (Err (OutOfGrammar at)))) e) ∙ read_end

    pub ends_well : ended s ≡ true → Ok before ≡ scanned line
    ends_well e = ap Ok (sym (append-nil before)) ∙ sym (ap (λ u. prefixed before (cond u (Ok []) (Err (OutOfGrammar at)))) e) ∙ read_end
