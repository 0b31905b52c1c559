-- The reading of a line, worked out. Rests on Scan and on Parser and Readings of crate grammar.
use Rattle.std.specs.Prelude.{ℕ, cond, List, length, Some, None, Ok, Err, Option, Result, nat_lt}
use Rattle.grammar.specs.declared.line.Line.{Line}
use Rattle.grammar.specs.Names.{Phrase}
use Rattle.grammar.specs.Parser.{parse}
use Rattle.grammar.specs.Readings.{said, reading_of}
use Rattle.grammar.specs.Words.{words}
use Rattle.reading.specs.Answers.{Answer}
use Rattle.reading.specs.Scan.{Scanned, scanned}
use Rattle.reading.specs.declared.fault.TextFault.TheVariants.{LineTooLong}
use Rattle.reading.specs.declared.fault.RuleFault.{RuleFault}
use Rattle.reading.specs.declared.fault.RuleFault.TheVariants.{Text, OutOfGrammar, TooManyNodes}

-- a rule, by its tree; where tokens were found there always is one
abbrev pub from_parse : Option Phrase → Answer
from_parse None = Err (OutOfGrammar 0)
from_parse (Some t) = Ok (reading_of t)

-- the tokens that were found are a rule if their words are not too many
abbrev pub from_scan : Scanned → Answer
from_scan (Err f) = Err f
from_scan (Ok ts) = cond (nat_lt 32 (words ts)) (Err (TooManyNodes (words ts))) (from_parse (parse ts))

abbrev pub reading : List ℕ → Answer
reading bs = cond (nat_lt 512 (length bs)) (Err (Text LineTooLong)) (from_scan (scanned bs))

-- what a program answers
abbrev pub shown : Result Line RuleFault → Answer
shown (Ok l) = Ok (said l)
shown (Err f) = Err f
