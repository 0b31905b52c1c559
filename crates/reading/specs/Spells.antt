-- Which tokens the bytes of a line spell. Rests on Bytes, Decoding and Names of crate grammar.
use Rattle.std.specs.Prelude.{◌≡◌, ℕ, ◌+◌, ◌<◌, ◌≤◌, Bool, true, false, List, [], ◌∷◌, ◌++◌, length}
use Rattle.grammar.specs.declared.token.Token.{Token}
use Rattle.grammar.specs.declared.token.Token.TheVariants.{Open, Close, Name}
use Rattle.grammar.specs.Names.{stored}
use Rattle.reading.specs.Bytes.{lower, upper, Edge, Word, letters, word_token, tight}
use Rattle.reading.specs.Decoding.{spellings, Runs}

-- a word does not go on here
abbrev pub WordEnds : List ℕ → Type 0
WordEnds [] = Unit {0}
WordEnds (b ∷ bs) = lower b ≡ false

-- `TokenAt p bs k r`: at the place p the bytes bs begin with the token k, and r is left
pub data TokenAt (p : ℕ) : List ℕ → Token → List ℕ → Type 0 where
  opens : {r : List ℕ} → TokenAt p (40 ∷ r) Open r
  closes : {r : List ℕ} → TokenAt p (41 ∷ r) Close r
  word : {r : List ℕ} (w : Word) → WordEnds r → TokenAt p (letters w ++ r) (word_token w p) r
  name : {b : ℕ} {bs r n : List ℕ} → upper b ≡ true → Runs spellings bs r n → length n < 12
      → TokenAt p (b ∷ bs) (Name (record { place = p; name = stored (b ∷ n) })) r

-- a name of more than twelve decoded bytes begins here
abbrev pub LongName : List ℕ → Type 0
LongName [] = ⊥
LongName (b ∷ bs) = (upper b ≡ true) × ((r : List ℕ) × (n : List ℕ) × Runs spellings bs r n × (12 ≤ length n))

-- behind a word or a name, which t says, only a space, a parenthesis or the end may stand
abbrev pub Apart : Bool → List ℕ → Type 0
Apart t bs = t ≡ true → Edge bs

-- `Spelt p r t u q bs ts`: from the place q on, the bytes bs spell the tokens ts up to the place p, where r is left.
-- u and t say whether a word or a name ends right before q, and right before p.
pub data Spelt (p : ℕ) (r : List ℕ) (t : Bool) : Bool → ℕ → List ℕ → List Token → Type 0 where
  here : Spelt p r t t p r []
  space : {u : Bool} {q : ℕ} {bs : List ℕ} {ts : List Token} → Spelt p r t false (q + 1) bs ts → Spelt p r t u q (32 ∷ bs) ts
  token : {u : Bool} {q next : ℕ} {bs rest : List ℕ} {k : Token} {ts : List Token}
      → Apart u bs → TokenAt q bs k rest → next + length rest ≡ q + length bs
      → Spelt p r t (tight k) next rest ts → Spelt p r t u q bs (k ∷ ts)

-- a whole line spells these tokens
abbrev pub Spells : List ℕ → List Token → Type 0
Spells bs ts = (t : Bool) × Spelt (length bs) [] t false 0 bs ts
