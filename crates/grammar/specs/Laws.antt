-- What is proved of the grammar, the recogniser and the parser. Rests on Grammar, Automaton and Parser.
use Rattle.std.specs.Prelude.{◌≡◌, true, ◌≢◌, ◌↔◌, List, [], ◌∷◌, ◌++◌, Some, None}
use Rattle.grammar.specs.declared.token.Token.{Token}
use Rattle.grammar.specs.declared.level.Level.TheVariants.{Rule}
use Rattle.grammar.specs.Names.{Phrase}
use Rattle.grammar.specs.Grammar.{Is}
use Rattle.grammar.specs.Automaton.{run, start, accepted}
use Rattle.grammar.specs.Parser.{parse}

-- a token list has at most one tree
abbrev pub OneTree : Type 0
OneTree = (ts : List Token) (t u : Phrase) → Is Rule ts t → Is Rule ts u → t ≡ u

-- the automaton accepts just the rules
abbrev pub AcceptedExactly : Type 0
AcceptedExactly = (ts : List Token) → (accepted ts ≡ true) ↔ ((t : Phrase) × Is Rule ts t)

-- The tokens that the automaton has taken go on to a rule; with a token that it refuses, or with one that follows a refused one, none does.
abbrev pub ViablePrefix : Type 0
ViablePrefix =
    (ts : List Token) (k : Token) → run start ts ≢ None → run start (ts ++ k ∷ []) ≡ None
    → ((more : List Token) × (t : Phrase) × Is Rule (ts ++ more) t)
    × ((more : List Token) (t : Phrase) → Is Rule (ts ++ k ∷ more) t → ⊥)

-- the computed tree is the one of the grammar
abbrev pub ParsedExactly : Type 0
ParsedExactly = (ts : List Token) (t : Phrase) → (parse ts ≡ Some t) ↔ Is Rule ts t
