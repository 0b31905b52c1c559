-- What the pass over a line finds, in the words of spelling and of the automaton.
use Rattle.std.proofs.Common.{◌≡◌, ℕ, zero, suc, ◌+◌, ◌≤◌, Bool, true, false, cond, List, [], ◌∷◌, length, drop, Some, None, Ok, Err, Option, sym, refl, ap, ◌∙◌, subst, add-zero, arith}
use mathlib.Core.Bool.{false≢true}
use Rattle.std.proofs.lemmas.List.{length-drop}
use Rattle.grammar.specs.declared.state.State.{State}
use Rattle.grammar.specs.declared.token.Token.{Token}
use Rattle.grammar.specs.Automaton.{step, run, ended, complete}
use Rattle.reading.specs.Bytes.{edge, tight}
use Rattle.reading.specs.Spells.{TokenAt, Apart, Spelt, here, space, token}
use Rattle.reading.specs.Faults.{Cause, not_apart, no_token, long_name, out_of_grammar, unfinished}
use Rattle.reading.specs.declared.fault.RuleFault.{RuleFault}
use Rattle.reading.specs.declared.fault.RuleFault.TheVariants.{Text, OutOfGrammar}
use Rattle.reading.specs.declared.fault.TextFault.TheVariants.{WrongByte}
use Rattle.reading.specs.Scan.{Lexeme, none, over, got, Kind, gap, opening, closing, small, big, strange, kind, lexeme, Scanned, prefixed, allowed, taken, moved, scan_from}
use Rattle.reading.proofs.Tests.{OfKind, of_kind, inner, solid, edge_inner, not_space}
use Rattle.reading.proofs.Tokens.{Found, found, none_spelt, none_long}

-- a fault, as the automaton has it
abbrev pub Explained : Bool → State → ℕ → List ℕ → RuleFault → Type 0
Explained u s at bs f =
    (ts : List Token) × (p : ℕ) × (r : List ℕ) × (t : Bool)
    × Spelt p r t u at bs ts × (q : State) × (run (Some s) ts ≡ Some q) × Cause (λ k. step q k ≡ None) (ended q ≡ false) t p r f

-- the tokens up to the end, and that a rule may end there; or a fault
abbrev pub Outcome : ℕ → Bool → State → ℕ → List ℕ → Scanned → Type 0
Outcome end u s at bs (Ok ts) = ((t : Bool) × Spelt end [] t u at bs ts) × (complete (run (Some s) ts) ≡ true)
Outcome end u s at bs (Err f) = Explained u s at bs f

module _ (end b : ℕ) (bs : List ℕ) (u : Bool) (at : ℕ) (s : State)
    (later : (k : ℕ) (t : Bool) (q : State) (p : ℕ) → k ≤ length bs → p ≡ at + 1 + k → Outcome end t q p (drop k bs) (scan_from k t (at + 1) q bs)) where
  -- one token before what is found behind it
  join : (k : Token) (n : ℕ) → Apart u (b ∷ bs) → TokenAt at (b ∷ bs) k (drop n bs) → n ≤ length bs → (q : State) → step s k ≡ Some q
      → (r : Scanned) → Outcome end (tight k) q (at + 1 + n) (drop n bs) r → Outcome end u s at (b ∷ bs) (prefixed (k ∷ []) r)
  join k n a x l q e (Ok ts) h =
      let d = length-drop n bs in
      ((h.0.0, token a x (let z : at + 1 + n + length (drop n bs) ≡ at + length (b ∷ bs) = omega arith in z) h.0.1), ap (λ o. complete (run o ts)) e ∙ h.1)
  join k n a x l q e (Err f) h =
      let d = length-drop n bs in
      (k ∷ h.0, h.1, h.2, h.3, token a x (let z : at + 1 + n + length (drop n bs) ≡ at + length (b ∷ bs) = omega arith in z) h.4, h.5, ap (λ o. run o h.0) e ∙ h.6, h.7)

  at_state : (k : Token) (n : ℕ) → Apart u (b ∷ bs) → TokenAt at (b ∷ bs) k (drop n bs) → n ≤ length bs
      → (o : Option State) → step s k ≡ o → Outcome end u s at (b ∷ bs) (allowed at k o (λ q. scan_from n (tight k) (at + 1) q bs))
  at_state k n a x l (Some q) e = join k n a x l q e _ (later n (tight k) q (at + 1 + n) l refl)
  at_state k n a x l None e = ([], at, b ∷ bs, u, here, s, refl, out_of_grammar a x e)

  at_lexeme : Apart u (b ∷ bs) → solid (kind b) ≡ true → (x : Lexeme) → lexeme at (kind b) b bs ≡ x
      → Outcome end u s at (b ∷ bs) (taken at s x (λ n t q. scan_from n t (at + 1) q bs))
  at_lexeme a g none e = ([], at, b ∷ bs, u, here, s, refl, no_token a (not_space b g) (none_spelt at b bs e) (none_long at b bs e))
  at_lexeme a g over e = ([], at, b ∷ bs, u, here, s, refl, long_name a (subst (Found at b bs) e (found at b bs)))
  at_lexeme a g (got k n) e =
      let f = subst (Found at b bs) e (found at b bs) in
      at_state k n a f.0 f.1 (step s k) refl

  loose : u ≡ false → Apart u (b ∷ bs)
  loose h = λ t. absurd (false≢true (sym h ∙ t))

  -- a byte that is no edge
  at_inner : inner (kind b) ≡ true → solid (kind b) ≡ true → (t : Bool) → u ≡ t
      → Outcome end u s at (b ∷ bs) (cond t (Err (Text (WrongByte at))) (taken at s (lexeme at (kind b) b bs) (λ n t q. scan_from n t (at + 1) q bs)))
  at_inner i g true e = ([], at, b ∷ bs, u, here, s, refl, not_apart e (edge_inner b i))
  at_inner i g false e = at_lexeme (loose e) g (lexeme at (kind b) b bs) refl

  at_kind : (k : Kind) → kind b ≡ k → OfKind b k → Outcome end u s at (b ∷ bs) (moved u at s k (lexeme at k b bs) (λ n t q. scan_from n t (at + 1) q bs))
  at_kind gap h o = spaced (scan_from 0 false (at + 1) s bs) (later 0 false s (at + 1) (omega arith) (sym (add-zero (at + 1))))
    where
      spaced : (r : Scanned) → Outcome end false s (at + 1) bs r → Outcome end u s at (b ∷ bs) r
      spaced (Ok ts) x = ((x.0.0, subst (λ y. Spelt end [] x.0.0 u at (y ∷ bs) ts) (sym o) (space x.0.1)), x.1)
      spaced (Err f) x = (x.0, x.1, x.2, x.3, subst (λ y. Spelt x.1 x.2 x.3 u at (y ∷ bs) x.0) (sym o) (space x.4), x.5, x.6, x.7)
  at_kind opening h o = at_lexeme (λ t. ap edge o) (ap solid h) (lexeme at opening b bs) (ap (λ k. lexeme at k b bs) h)
  at_kind closing h o = at_lexeme (λ t. ap edge o) (ap solid h) (lexeme at closing b bs) (ap (λ k. lexeme at k b bs) h)
  at_kind small h o = subst (λ k. Outcome end u s at (b ∷ bs) (cond u (Err (Text (WrongByte at))) (taken at s (lexeme at k b bs) (λ n t q. scan_from n t (at + 1) q bs)))) h (at_inner (ap inner h) (ap solid h) u refl)
  at_kind big h o = subst (λ k. Outcome end u s at (b ∷ bs) (cond u (Err (Text (WrongByte at))) (taken at s (lexeme at k b bs) (λ n t q. scan_from n t (at + 1) q bs)))) h (at_inner (ap inner h) (ap solid h) u refl)
  at_kind strange h o = go u refl
    where
      go : (t : Bool) → u ≡ t → Explained u s at (b ∷ bs) (Text (WrongByte at))
      go true e = ([], at, b ∷ bs, u, here, s, refl, not_apart e (edge_inner b (ap inner h)))
      go false e =
          let n : lexeme at (kind b) b bs ≡ none = ap (λ k. lexeme at k b bs) h in
          ([], at, b ∷ bs, u, here, s, refl, no_token (loose e) (not_space b (ap solid h)) (none_spelt at b bs n) (none_long at b bs n))

pub outcome : (end : ℕ) (bs : List ℕ) (k : ℕ) (u : Bool) (at p : ℕ) (s : State) → k ≤ length bs → p ≡ at + k → at + length bs ≡ end
    → Outcome end u s p (drop k bs) (scan_from k u at s bs)
unfolding scan_from
outcome end [] zero u at p s h q e =
    subst (λ x. Outcome end u s x [] (cond (ended s) (Ok []) (Err (OutOfGrammar at)))) (sym (q ∙ add-zero at))
    (go (ended s) refl)
  where
    go : (t : Bool) → ended s ≡ t → Outcome end u s at [] (cond t (Ok []) (Err (OutOfGrammar at)))
    go true i = ((u, subst (λ x. Spelt x [] u u at [] []) (sym (add-zero at) ∙ e) here), i)
    go false i = ([], at, [], u, here, s, refl, unfinished i)
outcome end [] (suc k) u at p s h q e = absurd (let z : ⊥ = omega arith in z)
outcome end (b ∷ bs) (suc k) u at p s h q e = outcome end bs k u (at + 1) p s (omega arith) (omega arith) (omega arith)
outcome end (b ∷ bs) zero u at p s h q e =
    subst (λ x. Outcome end u s x (b ∷ bs) (moved u at s (kind b) (lexeme at (kind b) b bs) (λ n t v. scan_from n t (at + 1) v bs))) (sym (q ∙ add-zero at))
    (at_kind end b bs u at s (λ k t v x i j. outcome end bs k t (at + 1) x v i j (omega arith)) (kind b) refl (of_kind b))
