-- The words and the names of a token list. Rests on nothing.
use Rattle.std.specs.Prelude.{ℕ, suc, ◌+◌, ◌<◌, ◌≤◌, Bool, true, false, cond, List, [], ◌∷◌}
use Rattle.grammar.specs.declared.name.Named.{Named}
use Rattle.grammar.specs.declared.token.Token.{Token}
use Rattle.grammar.specs.declared.token.Token.TheVariants.{Open, Close, Name, With, Not, And, Or, Then}

-- parentheses and names are no words
abbrev pub is_word : Token → Bool
is_word Open = false
is_word Close = false
is_word (Name a) = false
is_word (With p) = true
is_word (Not p) = true
is_word (And p) = true
is_word (Or p) = true
is_word (Then p) = true

abbrev pub weight : Token → ℕ
weight k = cond (is_word k) 1 0

-- how many words there are
abbrev pub words : List Token → ℕ
words [] = 0
words (k ∷ ks) = weight k + words ks

-- the words stand from `from` on, each after the one before it, and before `to`
abbrev pub Rising : ℕ → ℕ → List Token → Type 0
Rising from to [] = from ≤ to
Rising from to (Open ∷ ks) = Rising from to ks
Rising from to (Close ∷ ks) = Rising from to ks
Rising from to (Name a ∷ ks) = Rising from to ks
Rising from to (With p ∷ ks) = (from ≤ p) × (p < to) × Rising (suc p) to ks
Rising from to (Not p ∷ ks) = (from ≤ p) × (p < to) × Rising (suc p) to ks
Rising from to (And p ∷ ks) = (from ≤ p) × (p < to) × Rising (suc p) to ks
Rising from to (Or p ∷ ks) = (from ≤ p) × (p < to) × Rising (suc p) to ks
Rising from to (Then p ∷ ks) = (from ≤ p) × (p < to) × Rising (suc p) to ks

-- the names, in the order in which they stand
abbrev pub token_names : List Token → List Named
token_names [] = []
token_names (Open ∷ ks) = token_names ks
token_names (Close ∷ ks) = token_names ks
token_names (Name a ∷ ks) = a ∷ token_names ks
token_names (With p ∷ ks) = token_names ks
token_names (Not p ∷ ks) = token_names ks
token_names (And p ∷ ks) = token_names ks
token_names (Or p ∷ ks) = token_names ks
token_names (Then p ∷ ks) = token_names ks
