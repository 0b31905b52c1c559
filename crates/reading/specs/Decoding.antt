-- Names: which bytes spell which, where each of a list of spellings of the ampersand is one ampersand. Rests on Bytes.
use Rattle.std.specs.Prelude.{◌≡◌, ℕ, Bool, true, false, cond, ◌&&◌, ◌||◌, List, [], ◌∷◌, length, drop, Some, None, Option, ◌==◌}
use Rattle.reading.specs.Bytes.{plain}

-- the ways to write an ampersand by more than `&`, each without its `&`: `amp;`
abbrev pub spellings : List (List ℕ)
spellings = (97 ∷ 109 ∷ 112 ∷ 59 ∷ []) ∷ []

-- whether the bytes begin with others
abbrev pub starts : List ℕ → List ℕ → Bool
starts [] bs = true
starts (x ∷ xs) [] = false
starts (x ∷ xs) (b ∷ bs) = b == x && starts xs bs

-- the first of some spellings with which the bytes begin
abbrev pub first_of : List (List ℕ) → List ℕ → Option (List ℕ)
first_of [] bs = None
first_of (s ∷ ss) bs = cond (starts s bs) (Some s) (first_of ss bs)

-- a name does not go on here
abbrev pub NameEnds : List ℕ → Type 0
NameEnds [] = Unit {0}
NameEnds (b ∷ bs) = (b == 38 || plain b) ≡ false

-- `Runs sp bs r n`: behind its first letter a name runs on over the bytes bs up to r, and they spell n.
-- An `&` with a spelling behind it is one ampersand, spelling and all; any other `&` is one as well.
pub data Runs (sp : List (List ℕ)) : List ℕ → List ℕ → List ℕ → Type 0 where
  stops : {r : List ℕ} → NameEnds r → Runs sp r r []
  itself : {b : ℕ} {bs r n : List ℕ} → plain b ≡ true → Runs sp bs r n → Runs sp (b ∷ bs) r (b ∷ n)
  ampersand : {bs r n : List ℕ} → first_of sp bs ≡ None → Runs sp bs r n → Runs sp (38 ∷ bs) r (38 ∷ n)
  reference : {s bs r n : List ℕ} → first_of sp bs ≡ Some s → Runs sp (drop (length s) bs) r n → Runs sp (38 ∷ bs) r (38 ∷ n)
