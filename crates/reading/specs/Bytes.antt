-- The bytes of a line, by what they can be part of. Rests on nothing.
use Rattle.std.specs.Prelude.{◌≡◌, ℕ, Bool, true, false, ◌&&◌, ◌||◌, List, [], ◌∷◌, ◌==◌, nat_le}
use Rattle.grammar.specs.declared.token.Token.{Token}
use Rattle.grammar.specs.declared.token.Token.TheVariants.{Open, Close, Name, With, Not, And, Or, Then}

-- a to z
abbrev pub lower : ℕ → Bool
lower b = nat_le 97 b && nat_le b 122

-- A to Z
abbrev pub upper : ℕ → Bool
upper b = nat_le 65 b && nat_le b 90

-- what stands for itself inside a name: A to Z, 0 to 9 and `-`
abbrev pub plain : ℕ → Bool
plain b = upper b || (nat_le 48 b && nat_le b 57) || b == 45

-- what may stand after a word or a name: a space or a parenthesis
abbrev pub edge : ℕ → Bool
edge b = b == 32 || b == 40 || b == 41

-- a space, a parenthesis or the end comes next
abbrev pub Edge : List ℕ → Type 0
Edge [] = Unit {0}
Edge (b ∷ bs) = edge b ≡ true

pub data Word : Type 0 where
  with not and or then : Word

abbrev pub letters : Word → List ℕ
letters with = 119 ∷ 105 ∷ 116 ∷ 104 ∷ []
letters not = 110 ∷ 111 ∷ 116 ∷ []
letters and = 97 ∷ 110 ∷ 100 ∷ []
letters or = 111 ∷ 114 ∷ []
letters then = 116 ∷ 104 ∷ 101 ∷ 110 ∷ []

-- a word at its place
abbrev pub word_token : Word → ℕ → Token
word_token with p = With p
word_token not p = Not p
word_token and p = And p
word_token or p = Or p
word_token then p = Then p

-- a word or a name, behind which only an edge may stand
abbrev pub tight : Token → Bool
tight Open = false
tight Close = false
tight (Name a) = true
tight (With p) = true
tight (Not p) = true
tight (And p) = true
tight (Or p) = true
tight (Then p) = true
