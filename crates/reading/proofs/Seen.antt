-- The token that comes first, as the program finds it.
use Rattle.std.proofs.Common.{◌≡◌, ℕ, suc, ◌+◌, ◌<◌, true, List, [], ◌∷◌, length, get_or, take, drop, Some, None, Ok, Err, Option, Result, sym, refl, ap, ◌∙◌, arith}
use Rattle.std.proofs.lemmas.List.{take_at}
use Rattle.grammar.specs.declared.token.Token.{Token}
use Rattle.reading.specs.Bytes.{lower, Word, word_token}
use Rattle.reading.specs.Scan.{run_of, word_of, worded, lexeme}
use Rattle.reading.specs.Lexing.{word_at, seen, seen_at}
use Rattle.reading.specs.declared.fault.TextFault.{TextFault}
use Rattle.reading.specs.declared.fault.TextFault.TheVariants.{WrongByte}
use Rattle.reading.proofs.Tests.{lower_kind}
use Rattle.reading.proofs.Tokens.{run_split}

abbrev Seen : Type 0
Seen = Result (Token × ℕ) TextFault

-- the letters that come first, as a part of the line
take_run : (b : ℕ) (bs : List ℕ) (n : ℕ) → n ≡ length (run_of bs) → take (n + 1) (b ∷ bs) ≡ b ∷ run_of bs
take_run b bs n e =
    ap (λ k. take k (b ∷ bs)) (let z : n + 1 ≡ suc (length (run_of bs)) = omega arith in z)
    ∙ ap (λ s. b ∷ s) (ap (take (length (run_of bs))) (sym (run_split bs).0) ∙ take_at (run_of bs) (drop (length (run_of bs)) bs) (length (run_of bs)) refl)

taken_run : (xs : List ℕ) (n : ℕ) → 0 < length xs → n ≡ length (run_of (drop 1 xs)) → take (n + 1) xs ≡ get_or xs 0 0 ∷ run_of (drop 1 xs)
taken_run [] n h e = absurd (let z : ⊥ = omega arith in z)
taken_run (b ∷ bs) n h e = take_run b bs n e

seen_small : (xs : List ℕ) (at : ℕ) → 0 < length xs → lower (get_or xs 0 0) ≡ true
    → seen_at at xs ≡ seen at (worded at (length (run_of (drop 1 xs))) (word_of (get_or xs 0 0 ∷ run_of (drop 1 xs))))
seen_small [] at h e = absurd (let z : ⊥ = omega arith in z)
seen_small (b ∷ bs) at h e = ap (λ k. seen at (lexeme at k b bs)) (lower_kind b e)

word_some : (at m : ℕ) (o : Option Word) (k : Token) → Some k ≡ word_at at o → ◌≡◌ {A = Seen} (Ok (k, m + 1)) (seen at (worded at m o))
word_some at m None k e = cc
word_some at m (Some w) k e = let f : k ≡ word_token w at = cc in ap (λ x. Ok (x, m + 1)) f

word_none : (at m : ℕ) (o : Option Word) → None ≡ word_at at o → ◌≡◌ {A = Seen} (Err (WrongByte at)) (seen at (worded at m o))
word_none at m None e = refl
word_none at m (Some w) e = cc

module _ (xs : List ℕ) (at : ℕ) (h : 0 < length xs) (n : ℕ) (l : lower (get_or xs 0 0) ≡ true) (e : n ≡ length (run_of (drop 1 xs))) where
  pub sees_word : (k : Token) → Some k ≡ word_at at (word_of (take (n + 1) xs)) → ◌≡◌ {A = Seen} (Ok (k, n + 1)) (seen_at at xs)
  sees_word k f =
      ap (λ m. Ok (k, m + 1)) e
      ∙ word_some at (length (run_of (drop 1 xs))) (word_of (get_or xs 0 0 ∷ run_of (drop 1 xs))) k (f ∙ ap (λ s. word_at at (word_of s)) (taken_run xs n h e))
      ∙ sym (seen_small xs at h l)

  pub sees_no_word : None ≡ word_at at (word_of (take (n + 1) xs)) → ◌≡◌ {A = Seen} (Err (WrongByte at)) (seen_at at xs)
  sees_no_word f =
      word_none at (length (run_of (drop 1 xs))) (word_of (get_or xs 0 0 ∷ run_of (drop 1 xs))) (f ∙ ap (λ s. word_at at (word_of s)) (taken_run xs n h e))
      ∙ sym (seen_small xs at h l)
