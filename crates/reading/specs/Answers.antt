-- What the reading of a line answers, in terms of the grammar alone. Rests on Spells, Faults, Grammar and Readings of crate grammar.
use Rattle.std.specs.Prelude.{ℕ, ◌<◌, ◌≤◌, List, length, Ok, Err, Result}
use Rattle.grammar.specs.declared.level.Level.TheVariants.{Rule}
use Rattle.grammar.specs.declared.token.Token.{Token}
use Rattle.grammar.specs.Names.{Phrase}
use Rattle.grammar.specs.Grammar.{Is}
use Rattle.grammar.specs.Words.{words}
use Rattle.grammar.specs.Readings.{Reading, reading_of}
use Rattle.reading.specs.Spells.{Spells}
use Rattle.reading.specs.Faults.{Faulty}
use Rattle.reading.specs.declared.fault.TextFault.TheVariants.{LineTooLong}
use Rattle.reading.specs.declared.fault.RuleFault.{RuleFault}
use Rattle.reading.specs.declared.fault.RuleFault.TheVariants.{Text, TooManyNodes}

abbrev pub Answer : Type 0
Answer = Result Reading RuleFault

-- A line of more than 512 bytes is refused. One of at most 512 that goes wrong somewhere is refused with that fault.
-- One that spells a rule is taken if it has at most 32 words, and otherwise refused with their number.
pub data Answers (bs : List ℕ) : Answer → Type 0 where
  too_long : 512 < length bs → Answers bs (Err (Text LineTooLong))
  faulty : {f : RuleFault} → length bs ≤ 512 → Faulty bs f → Answers bs (Err f)
  too_many : {ts : List Token} {t : Phrase} → length bs ≤ 512 → Spells bs ts → Is Rule ts t → 32 < words ts → Answers bs (Err (TooManyNodes (words ts)))
  taken : {ts : List Token} {t : Phrase} → length bs ≤ 512 → Spells bs ts → Is Rule ts t → words ts ≤ 32 → Answers bs (Ok (reading_of t))
