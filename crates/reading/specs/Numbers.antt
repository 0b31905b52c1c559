-- The number, the carried number and the layer of each refusal. Rests on nothing.
use Rattle.std.specs.Prelude.{ℕ, List, codes}
use Rattle.reading.specs.declared.fault.TextFault.TheVariants.{LineTooLong, WrongByte, NameTooLong}
use Rattle.reading.specs.declared.fault.RuleFault.{RuleFault}
use Rattle.reading.specs.declared.fault.RuleFault.TheVariants.{Text, OutOfGrammar, TooManyNodes}
use Rattle.reading.specs.declared.fault.Layer.{Layer}
use Rattle.reading.specs.declared.fault.Layer.TheVariants as layer

-- 2 to 4 are faults of the text, 5 and 6 of the rule
abbrev pub number_of : RuleFault → ℕ
number_of (Text LineTooLong) = 2
number_of (Text (WrongByte p)) = 3
number_of (Text (NameTooLong p)) = 4
number_of (OutOfGrammar p) = 5
number_of (TooManyNodes n) = 6

-- a line that is too long carries the most bytes that a line may have, the others their place or their number of words
abbrev pub carried_of : RuleFault → ℕ
carried_of (Text LineTooLong) = 512
carried_of (Text (WrongByte p)) = p
carried_of (Text (NameTooLong p)) = p
carried_of (OutOfGrammar p) = p
carried_of (TooManyNodes n) = n

abbrev pub layer_of : RuleFault → Layer
layer_of (Text f) = layer.Text
layer_of (OutOfGrammar p) = layer.Rule
layer_of (TooManyNodes n) = layer.Rule

-- the layer as it is printed
abbrev pub layer_word : Layer → List ℕ
layer_word layer.Text = codes "text"
layer_word layer.Rule = codes "rule"
