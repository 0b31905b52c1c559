-- One pass over a line: its tokens, or its leftmost fault. Rests on Bytes, Decoding and Automaton of crate grammar.
use Rattle.std.specs.Prelude.{ℕ, zero, suc, ◌+◌, Bool, false, cond, List, [], ◌∷◌, ◌++◌, length, Some, None, Ok, Err, Option, Result, ◌==◌, nat_le}
use Rattle.grammar.specs.declared.state.State.{State}
use Rattle.grammar.specs.declared.state.State.TheVariants.{WantPart}
use Rattle.grammar.specs.declared.token.Token.{Token}
use Rattle.grammar.specs.declared.token.Token.TheVariants.{Open, Close, Name}
use Rattle.grammar.specs.Automaton.{step, ended}
use Rattle.grammar.specs.Names.{same, stored}
use Rattle.reading.specs.Bytes.{lower, upper, plain, Word, with, not, and, or, then, letters, word_token, tight}
use Rattle.reading.specs.Decoding.{spellings, first_of}
use Rattle.reading.specs.declared.fault.TextFault.TheVariants.{WrongByte, NameTooLong}
use Rattle.reading.specs.declared.fault.RuleFault.{RuleFault}
use Rattle.reading.specs.declared.fault.RuleFault.TheVariants.{Text, OutOfGrammar}

-- the letters a to z that come first
abbrev pub run_of : List ℕ → List ℕ
run_of [] = []
run_of (b ∷ bs) = cond (lower b) (b ∷ run_of bs) []

-- the word that has these letters
abbrev pub word_of : List ℕ → Option Word
word_of w =
    cond (same w (letters with)) (Some with)
    (cond (same w (letters not)) (Some not)
    (cond (same w (letters and)) (Some and)
    (cond (same w (letters or)) (Some or)
    (cond (same w (letters then)) (Some then) None))))

-- a byte of a name, with what comes behind it: its decoded bytes, and how many bytes spell them
abbrev pub behind : ℕ → List ℕ × ℕ → List ℕ × ℕ
behind b p = (b ∷ p.0, suc p.1)

-- how many bytes a spelling has behind its `&`
abbrev pub extra : Option (List ℕ) → ℕ
extra None = zero
extra (Some s) = length s

-- Inside a name, after `skip` bytes: the decoded bytes, and how many bytes they take with the skipped ones.
unfoldable pub decoded : List (List ℕ) → ℕ → List ℕ → List ℕ × ℕ
decoded sp skip [] = ([], zero)
decoded sp (suc k) (b ∷ bs) = ((decoded sp k bs).0, suc (decoded sp k bs).1)
decoded sp zero (b ∷ bs) =
    cond (b == 38) (behind 38 (decoded sp (extra (first_of sp bs)) bs))
    (cond (plain b) (behind b (decoded sp 0 bs)) ([], zero))

-- what comes at a place: no token, a name that is too long, or a token and how many bytes it has behind its first
pub data Lexeme : Type 0 where
  none over : Lexeme
  got : Token → ℕ → Lexeme

-- what can begin with a byte
pub data Kind : Type 0 where
  gap opening closing small big strange : Kind

abbrev pub kind : ℕ → Kind
kind b = cond (b == 32) gap (cond (b == 40) opening (cond (b == 41) closing (cond (lower b) small (cond (upper b) big strange))))

abbrev pub worded : ℕ → ℕ → Option Word → Lexeme
worded at n None = none
worded at n (Some w) = got (word_token w at) n

-- a name whose first letter is b
abbrev pub name_lexeme : ℕ → ℕ → List ℕ × ℕ → Lexeme
name_lexeme at b p = cond (nat_le 12 (length p.0)) over (got (Name (record { place = at; name = stored (b ∷ p.0) })) p.1)

abbrev pub lexeme : ℕ → Kind → ℕ → List ℕ → Lexeme
lexeme at gap b bs = none
lexeme at opening b bs = got Open 0
lexeme at closing b bs = got Close 0
lexeme at small b bs = worded at (length (run_of bs)) (word_of (b ∷ run_of bs))
lexeme at big b bs = name_lexeme at b (decoded spellings 0 bs)
lexeme at strange b bs = none

abbrev pub Scanned : Type 0
Scanned = Result (List Token) RuleFault

-- tokens before those that are found
abbrev pub prefixed : List Token → Scanned → Scanned
prefixed ts (Ok ks) = Ok (ts ++ ks)
prefixed ts (Err f) = Err f

-- a token, with the state behind it where the grammar takes it
abbrev pub allowed : ℕ → Token → Option State → (State → Scanned) → Scanned
allowed at k None go = Err (OutOfGrammar at)
allowed at k (Some q) go = prefixed (k ∷ []) (go q)

-- the rest of the pass, given how many bytes to skip, whether a word or a name ends there, and the state
abbrev pub Go : Type 0
Go = ℕ → Bool → State → Scanned

-- the token is given to the grammar before the byte after it is looked at
abbrev pub taken : ℕ → State → Lexeme → Go → Scanned
taken at s none go = Err (Text (WrongByte at))
taken at s over go = Err (Text (NameTooLong at))
taken at s (got k n) go = allowed at k (step s k) (go n (tight k))

-- right behind a word or a name only an edge may come
abbrev pub moved : Bool → ℕ → State → Kind → Lexeme → Go → Scanned
moved t at s gap x go = go 0 false s
moved t at s opening x go = taken at s x go
moved t at s closing x go = taken at s x go
moved t at s small x go = cond t (Err (Text (WrongByte at))) (taken at s x go)
moved t at s big x go = cond t (Err (Text (WrongByte at))) (taken at s x go)
moved t at s strange x go = Err (Text (WrongByte at))

-- From the place `at` on; `skip` bytes belong to the token before, and t says that it was a word or a name.
unfoldable pub scan_from : ℕ → Bool → ℕ → State → List ℕ → Scanned
scan_from skip t at s [] = cond (ended s) (Ok []) (Err (OutOfGrammar at))
scan_from (suc k) t at s (b ∷ bs) = scan_from k t (at + 1) s bs
scan_from zero t at s (b ∷ bs) = moved t at s (kind b) (lexeme at (kind b) b bs) (λ n u q. scan_from n u (at + 1) q bs)

-- the tokens of a line that is a rule, or its fault
abbrev pub scanned : List ℕ → Scanned
scanned bs = scan_from 0 false 0 (WantPart 0) bs
