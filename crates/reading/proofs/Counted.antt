-- The words of a line, counted one by one; and where they stand.
use Rattle.std.proofs.Common.{◌≡◌, ℕ, suc, ◌+◌, ◌<◌, ◌≤◌, Bool, List, [], ◌∷◌, length, ap, refl, arith}
use Rattle.std.specs.List.{count_by}
use Rattle.std.proofs.lemmas.List.{length-drop}
use Rattle.std.proofs.lemmas.List.Recursion.{is_sum_by}
use Rattle.reading.proofs.Tokens.{lexed}
use Rattle.grammar.specs.declared.token.Token.{Token}
use Rattle.grammar.specs.declared.token.Token.TheVariants.{Open, Close, Name, With, Not, And, Or, Then}
use Rattle.grammar.specs.Words.{is_word, weight, words, Rising}
use Rattle.reading.specs.Bytes.{with, not, and, or, then}
use Rattle.reading.specs.Spells.{TokenAt, opens, closes, word, name, Spelt, here, space, token}

pub words_are : (ts : List Token) → words ts ≡ count_by is_word ts
words_are ts = is_sum_by words weight refl (λ _ _. refl) ts

-- words may begin earlier than is said
sooner : (ts : List Token) (low from to : ℕ) → low ≤ from → Rising from to ts → Rising low to ts
sooner [] low from to h r = omega (arith, r)
sooner (Open ∷ ts) low from to h r = sooner ts low from to h r
sooner (Close ∷ ts) low from to h r = sooner ts low from to h r
sooner (Name a ∷ ts) low from to h r = sooner ts low from to h r
sooner (With p ∷ ts) low from to h r = (omega (arith, r.0), r.1, r.2)
sooner (Not p ∷ ts) low from to h r = (omega (arith, r.0), r.1, r.2)
sooner (And p ∷ ts) low from to h r = (omega (arith, r.0), r.1, r.2)
sooner (Or p ∷ ts) low from to h r = (omega (arith, r.0), r.1, r.2)
sooner (Then p ∷ ts) low from to h r = (omega (arith, r.0), r.1, r.2)

-- a token at a place, before tokens that stand after it
placed : {q : ℕ} {bs rest : List ℕ} {k : Token} → TokenAt q bs k rest → (ts : List Token) (next to : ℕ) → q < next → q < to → Rising next to ts → Rising q to (k ∷ ts)
placed {q} opens ts next to h l r = sooner ts q next to (omega arith) r
placed {q} closes ts next to h l r = sooner ts q next to (omega arith) r
placed {q} (word with e) ts next to h l r = (omega arith, l, sooner ts (suc q) next to h r)
placed {q} (word not e) ts next to h l r = (omega arith, l, sooner ts (suc q) next to h r)
placed {q} (word and e) ts next to h l r = (omega arith, l, sooner ts (suc q) next to h r)
placed {q} (word or e) ts next to h l r = (omega arith, l, sooner ts (suc q) next to h r)
placed {q} (word then e) ts next to h l r = (omega arith, l, sooner ts (suc q) next to h r)
placed {q} (name u x e) ts next to h l r = sooner ts q next to (omega arith) r

-- the tokens of a line stand where they are said to stand, and so their words rise
pub spelt_rising : {end : ℕ} {r : List ℕ} {t u : Bool} {q : ℕ} {bs : List ℕ} {ts : List Token} → Spelt end r t u q bs ts → (to : ℕ) → q + length bs ≤ to → Rising q to ts
spelt_rising here to h = omega arith
spelt_rising (space {q = q} {ts = ts} x) to h = sooner ts q (q + 1) to (omega arith) (spelt_rising x to (omega arith))
spelt_rising (token {q = q} {next = next} {bs = bs} {rest = rest} {ts = ts} a x e y) to h =
    let g = lexed x in
    let d = length-drop g.count g.others in
    let l : length rest < length bs = omega (arith, ap length g.split, ap length g.leaves) in
    placed x ts next to (omega arith) (omega arith) (spelt_rising y to (omega arith))
