-- Where a line first goes wrong, and why. Rests on Spells and Grammar of crate grammar.
use Rattle.std.specs.Prelude.{◌≡◌, ℕ, Bool, true, false, ◌≢◌, List, [], ◌∷◌, ◌++◌}
use Rattle.grammar.specs.declared.level.Level.TheVariants.{Rule}
use Rattle.grammar.specs.declared.token.Token.{Token}
use Rattle.grammar.specs.Names.{Phrase}
use Rattle.grammar.specs.Grammar.{Is}
use Rattle.reading.specs.Bytes.{edge}
use Rattle.reading.specs.Spells.{TokenAt, LongName, Apart, Spelt}
use Rattle.reading.specs.declared.fault.TextFault.TheVariants.{WrongByte, NameTooLong}
use Rattle.reading.specs.declared.fault.RuleFault.{RuleFault}
use Rattle.reading.specs.declared.fault.RuleFault.TheVariants.{Text, OutOfGrammar}

-- What stands at the place p, before the bytes that are left, and which fault it is; t says whether a word or a name ends right before p.
-- `Out k` says that the token k is out of grammar here, `Undone` that the line may not end here.
pub data Cause (Out : Token → Type 0) (Undone : Type 0) (t : Bool) (p : ℕ) : List ℕ → RuleFault → Type 0 where
  not_apart : {b : ℕ} {bs : List ℕ} → t ≡ true → edge b ≡ false → Cause Out Undone t p (b ∷ bs) (Text (WrongByte p))
  no_token : {b : ℕ} {bs : List ℕ} → Apart t (b ∷ bs) → b ≢ 32
      → ((k : Token) (r : List ℕ) → TokenAt p (b ∷ bs) k r → ⊥) → (LongName (b ∷ bs) → ⊥)
      → Cause Out Undone t p (b ∷ bs) (Text (WrongByte p))
  long_name : {bs : List ℕ} → Apart t bs → LongName bs → Cause Out Undone t p bs (Text (NameTooLong p))
  out_of_grammar : {bs rest : List ℕ} {k : Token} → Apart t bs → TokenAt p bs k rest → Out k → Cause Out Undone t p bs (OutOfGrammar p)
  unfinished : Undone → Cause Out Undone t p [] (OutOfGrammar p)

-- the tokens can be continued to a rule
abbrev pub Viable : List Token → Type 0
Viable ts = (more : List Token) × (t : Phrase) × Is Rule (ts ++ more) t

-- no rule begins with the tokens and this one
abbrev pub Refused : List Token → Token → Type 0
Refused ts k = (more : List Token) (t : Phrase) → Is Rule (ts ++ k ∷ more) t → ⊥

-- the tokens are no rule
abbrev pub NoRule : List Token → Type 0
NoRule ts = (t : Phrase) → Is Rule ts t → ⊥

-- The line has this fault: the bytes before some place spell tokens that can begin a rule, and at that place stands what the fault names.
pub record Faulty (bs : List ℕ) (f : RuleFault) : Type 0 where
  pub before : List Token
  pub place : ℕ
  pub left : List ℕ
  pub joined : Bool
  pub spelt : Spelt place left joined false 0 bs before
  pub viable : Viable before
  pub cause : Cause (Refused before) (NoRule before) joined place left f
