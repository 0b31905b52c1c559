-- The pass over a line in the program's own steps. Rests on Scan.
use Rattle.std.specs.Prelude.{ℕ, ◌+◌, Bool, false, cond, ◌&&◌, ◌||◌, List, [], ◌∷◌, length, drop, Some, None, Ok, Err, Option, Result, ◌==◌, nat_le, slice_index}
use Rattle.formula.specs.Held.{held}
use Rattle.formula.specs.declared.bounded.Bounded.{Bounded}
use Rattle.grammar.specs.declared.name.Name.{Name}
use Rattle.grammar.specs.declared.token.Token.{Token}
use Rattle.grammar.specs.Names.{stored}
use Rattle.reading.specs.Bytes.{plain, edge, Word, word_token}
use Rattle.reading.specs.Scan.{Lexeme, none, over, got, kind, lexeme, Scanned}
use Rattle.reading.specs.declared.fault.TextFault.{TextFault}
use Rattle.reading.specs.declared.fault.TextFault.TheVariants.{WrongByte, NameTooLong}
use Rattle.reading.specs.declared.fault.RuleFault.{RuleFault}

-- a word as a token at its place
abbrev pub word_at : ℕ → Option Word → Option Token
word_at at None = None
word_at at (Some w) = Some (word_token w at)

-- `&amp;` comes first
abbrev pub amp : List ℕ → Bool
amp bs = nat_le 5 (length bs) && (slice_index bs 0 == 38 && (slice_index bs 1 == 97 && (slice_index bs 2 == 109 && (slice_index bs 3 == 112 && slice_index bs 4 == 59))))

-- the next byte of a name, and what stands behind its spelling
abbrev pub letter_of : List ℕ → Option (ℕ × List ℕ)
letter_of [] = None
letter_of (b ∷ bs) = cond (amp (b ∷ bs)) (Some (38, drop 4 bs)) (cond (b == 38 || plain b) (Some (b, bs)) None)

-- a name with this first letter, and how many bytes it has behind it; none where it has more than twelve decoded bytes
abbrev pub name_of : ℕ → List ℕ × ℕ → Option (Name × ℕ)
name_of b p = cond (nat_le 12 (length p.0)) None (Some (stored (b ∷ p.0), p.1))

-- a token with the number of its bytes, or the fault
abbrev pub seen : ℕ → Lexeme → Result (Token × ℕ) TextFault
seen at none = Err (WrongByte at)
seen at over = Err (NameTooLong at)
seen at (got k n) = Ok (k, n + 1)

abbrev pub seen_at : ℕ → List ℕ → Result (Token × ℕ) TextFault
seen_at at [] = Err (WrongByte at)
seen_at at (b ∷ bs) = seen at (lexeme at (kind b) b bs)

-- a space or a parenthesis comes first
abbrev pub edge_first : List ℕ → Bool
edge_first [] = false
edge_first (b ∷ bs) = edge b

-- the token that comes first; behind a word or a name only an edge may come
abbrev pub checked_at : Bool → ℕ → List ℕ → Result (Token × ℕ) TextFault
checked_at t at bs = cond t (cond (edge_first bs) (seen_at at bs) (Err (WrongByte at))) (seen_at at bs)

-- the tokens that a program holds
abbrev pub held_tokens : Result (Bounded Token 512) RuleFault → Scanned
held_tokens (Ok b) = Ok (held b)
held_tokens (Err f) = Err f
