-- Worked examples of lines, taken and refused, as one statement. Rests on Reading and Numbers.
use Rattle.std.specs.Prelude.{◌≡◌, ℕ, zero, suc, List, [], ◌∷◌, ◌++◌, Some, None, Ok, Err, Option, codes, replicate}
use Rattle.formula.specs.declared.node.Pair.{Pair}
use Rattle.formula.specs.Tree.{Tree, leaf, not, and, or, then}
use Rattle.grammar.specs.declared.name.Named.{Named}
use Rattle.grammar.specs.Names.{stored}
use Rattle.reading.specs.Answers.{Answer}
use Rattle.reading.specs.Numbers.{number_of, carried_of, layer_of}
use Rattle.reading.specs.Reading.{reading}
use Rattle.reading.specs.declared.fault.RuleFault.{RuleFault}
use Rattle.reading.specs.declared.fault.RuleFault.TheVariants.{Text, OutOfGrammar, TooManyNodes}
use Rattle.reading.specs.declared.fault.TextFault.TheVariants.{LineTooLong, WrongByte, NameTooLong}
use Rattle.reading.specs.declared.fault.Layer.{Layer}
use Rattle.reading.specs.declared.fault.Layer.TheVariants as layer

abbrev pub Refused : List ℕ → RuleFault → Type 0
Refused bs f = ◌≡◌ {A = Answer} (reading bs) (Err f)

abbrev pub Taken : List ℕ → Tree (Pair ℕ) → List Named → Type 0
Taken bs t ns = ◌≡◌ {A = Answer} (reading bs) (Ok (record { tree = t; names = ns }))

-- the number of a refusal, what it carries, and its layer
abbrev pub numbers_of : Answer → Option (ℕ × ℕ × Layer)
numbers_of (Ok x) = None
numbers_of (Err f) = Some (number_of f, carried_of f, layer_of f)

abbrev pub Numbered : List ℕ → ℕ → ℕ → Layer → Type 0
Numbered bs n c l = numbers_of (reading bs) ≡ Some (n, c, l)

-- `A with A and ` so many times, 13 bytes and two words each time, before others
abbrev pub behind_many : ℕ → List ℕ → List ℕ
behind_many zero bs = bs
behind_many (suc k) bs = codes "A with A and " ++ behind_many k bs

-- a name at a place, and a pair of numbers whose `with` stands at a place
abbrev pub at : ℕ → List ℕ → Named
at p n = record { place = p; name = stored n }

abbrev pub pair : ℕ → ℕ → ℕ → Tree (Pair ℕ)
pair p i j = leaf (record { place = p; first = i; second = j })

pub record Examples : Type 0 where
  -- `A wiht B`
  pub refused_1 : Refused (codes "A wiht B") (Text (WrongByte 2))
  -- `ABCDEFGHIJKLM with B`
  pub refused_2 : Refused (codes "ABCDEFGHIJKLM with B") (Text (NameTooLong 0))
  -- `A with`
  pub refused_3 : Refused (codes "A with") (OutOfGrammar 6)
  -- `A&amp with B`
  pub refused_4 : Refused (codes "A&amp with B") (Text (WrongByte 2))
  -- `A&amp;B wiht C`
  pub refused_5 : Refused (codes "A&amp;B wiht C") (Text (WrongByte 8))
  -- `withB`
  pub refused_6 : Refused (codes "withB") (OutOfGrammar 0)
  -- `A B?`
  pub refused_7 : Refused (codes "A B?") (OutOfGrammar 2)
  -- `A withB`
  pub refused_8 : Refused (codes "A withB") (Text (WrongByte 6))
  -- `A withs B`
  pub refused_9 : Refused (codes "A withs B") (Text (WrongByte 2))
  -- `A wIth B`
  pub refused_10 : Refused (codes "A wIth B") (Text (WrongByte 2))
  -- `A QQQQQQQQQQQQQ`
  pub refused_11 : Refused (codes "A QQQQQQQQQQQQQ") (Text (NameTooLong 2))
  -- `A and QQQQQQQQQQQQQ`
  pub refused_12 : Refused (codes "A and QQQQQQQQQQQQQ") (OutOfGrammar 2)
  -- `A withQQQQQQQQQQQQQ`
  pub refused_13 : Refused (codes "A withQQQQQQQQQQQQQ") (Text (WrongByte 6))
  -- `A with   `
  pub refused_14 : Refused (codes "A with   ") (OutOfGrammar 9)
  -- `(A with B`
  pub refused_15 : Refused (codes "(A with B") (OutOfGrammar 9)
  -- `A with B)`
  pub refused_16 : Refused (codes "A with B)") (OutOfGrammar 8)
  -- `()`
  pub refused_17 : Refused (codes "()") (OutOfGrammar 1)
  -- `A with (B)`
  pub refused_18 : Refused (codes "A with (B)") (OutOfGrammar 7)
  -- `&amp;A with B`
  pub refused_19 : Refused (codes "&amp;A with B") (Text (WrongByte 0))
  -- `A&amp;amp; with B`
  pub refused_20 : Refused (codes "A&amp;amp; with B") (Text (WrongByte 6))
  -- `A&AMP; with B`
  pub refused_21 : Refused (codes "A&AMP; with B") (Text (WrongByte 5))
  -- `ABCDEFGHIJKL&amp; with B`
  pub refused_22 : Refused (codes "ABCDEFGHIJKL&amp; with B") (Text (NameTooLong 0))
  -- the empty line, and one that a carriage return ends
  pub refused_empty : Refused [] (OutOfGrammar 0)
  pub refused_return : Refused (codes "A with B" ++ 13 ∷ []) (Text (WrongByte 8))
  -- 512 spaces, and 513
  pub refused_spaces : Refused (replicate 512 32) (OutOfGrammar 512)
  pub refused_long : Refused (replicate 513 32) (Text LineTooLong)
  -- 33 words that fit
  pub refused_many : Refused (codes "A with A and A with A and A with A and A with A and A with A and A with A and A with A and A with A and A with A and A with A and A with A and A with A and A with A and A with A and A with A and A with A and A with A") (TooManyNodes 33)
  -- `ST-1 with S&amp;L-4`
  pub taken_1 : Taken (codes "ST-1 with S&amp;L-4") (pair 5 0 1) (at 0 (codes "ST-1") ∷ at 10 (codes "S&L-4") ∷ [])
  -- `A&B with A&amp;B`
  pub taken_2 : Taken (codes "A&B with A&amp;B") (pair 4 0 0) (at 0 (codes "A&B") ∷ [])
  -- `(A with B)and(C with D)`
  pub taken_3 : Taken (codes "(A with B)and(C with D)") (and 10 (pair 3 0 1) (pair 16 2 3)) (at 1 (codes "A") ∷ at 8 (codes "B") ∷ at 14 (codes "C") ∷ at 21 (codes "D") ∷ [])
  -- `not(A with B)`
  pub taken_4 : Taken (codes "not(A with B)") (not 0 (pair 6 0 1)) (at 4 (codes "A") ∷ at 11 (codes "B") ∷ [])
  -- `ABCDEFGHIJKL with B`
  pub taken_5 : Taken (codes "ABCDEFGHIJKL with B") (pair 13 0 1) (at 0 (codes "ABCDEFGHIJKL") ∷ at 18 (codes "B") ∷ [])
  -- `ABCDEFGHIJK&amp; with B`
  pub taken_6 : Taken (codes "ABCDEFGHIJK&amp; with B") (pair 17 0 1) (at 0 (codes "ABCDEFGHIJK&") ∷ at 22 (codes "B") ∷ [])
  -- `not (EN-2 with ST-1) then GR-7 with GR-8`
  pub taken_7 : Taken (codes "not (EN-2 with ST-1) then GR-7 with GR-8") (then 21 (not 0 (pair 10 0 1)) (pair 31 2 3)) (at 5 (codes "EN-2") ∷ at 15 (codes "ST-1") ∷ at 26 (codes "GR-7") ∷ at 36 (codes "GR-8") ∷ [])
  -- `A with B then B with C then C with A`
  pub taken_8 : Taken (codes "A with B then B with C then C with A") (then 9 (pair 2 0 1) (then 23 (pair 16 1 2) (pair 30 2 0))) (at 0 (codes "A") ∷ at 7 (codes "B") ∷ at 21 (codes "C") ∷ [])
  -- `A with B and B with C and C with A`
  pub taken_9 : Taken (codes "A with B and B with C and C with A") (and 22 (and 9 (pair 2 0 1) (pair 15 1 2)) (pair 28 2 0)) (at 0 (codes "A") ∷ at 7 (codes "B") ∷ at 20 (codes "C") ∷ [])
  -- `A with B or B with C or C with A`
  pub taken_10 : Taken (codes "A with B or B with C or C with A") (or 21 (or 9 (pair 2 0 1) (pair 14 1 2)) (pair 26 2 0)) (at 0 (codes "A") ∷ at 7 (codes "B") ∷ at 19 (codes "C") ∷ [])
  -- `A with B or B with C and not C with A`
  pub taken_11 : Taken (codes "A with B or B with C and not C with A") (or 9 (pair 2 0 1) (and 21 (pair 14 1 2) (not 25 (pair 31 2 0)))) (at 0 (codes "A") ∷ at 7 (codes "B") ∷ at 19 (codes "C") ∷ [])
  -- 252 parentheses around `A with B`
  pub taken_deep : Taken (replicate 252 40 ++ (codes "A with B" ++ replicate 252 41)) (pair 254 0 1) (at 252 (codes "A") ∷ at 259 (codes "B") ∷ [])
  -- numbers, carried numbers and layers: `A wiht B`, 513 spaces, `ABCDEFGHIJKLM with B`, `A with`, and 33 and 41 words that fit
  pub numbered_wrong : Numbered (codes "A wiht B") 3 2 layer.Text
  pub numbered_long : Numbered (replicate 513 32) 2 512 layer.Text
  pub numbered_name : Numbered (codes "ABCDEFGHIJKLM with B") 4 0 layer.Text
  pub numbered_early : Numbered (codes "A with") 5 6 layer.Rule
  pub numbered_many : Numbered (behind_many 16 (codes "A with A")) 6 33 layer.Rule
  pub numbered_more : Numbered (behind_many 20 (codes "A with A")) 6 41 layer.Rule
  -- behind 34 words, `A wiht A`, `A with ABCDEFGHIJKLM` and `A with`: their own faults and places, not the many words
  pub late_wrong : Numbered (behind_many 17 (codes "A wiht A")) 3 223 layer.Text
  pub late_name : Numbered (behind_many 17 (codes "A with ABCDEFGHIJKLM")) 4 228 layer.Text
  pub late_early : Numbered (behind_many 17 (codes "A with")) 5 227 layer.Rule
