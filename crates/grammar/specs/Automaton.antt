-- The recogniser: four states with the number of open parentheses, and none behind a token out of grammar.
use Rattle.std.specs.Prelude.{ℕ, zero, suc, Bool, true, false, List, [], ◌∷◌, Some, None, Option}
use Rattle.grammar.specs.declared.token.Token.{Token}
use Rattle.grammar.specs.declared.token.Token.TheVariants.{Open, Close, Name, With, Not, And, Or, Then}
use Rattle.grammar.specs.declared.state.State.{State}
use Rattle.grammar.specs.declared.state.State.TheVariants.{WantPart, HaveName, WantName, HavePart}

-- a token where a part is wanted
abbrev pub at_want : ℕ → Token → Option State
at_want d Open = Some (WantPart (suc d))
at_want d Close = None
at_want d (Name a) = Some (HaveName d)
at_want d (With p) = None
at_want d (Not p) = Some (WantPart d)
at_want d (And p) = None
at_want d (Or p) = None
at_want d (Then p) = None

-- behind the first name of a pair
abbrev pub at_named : ℕ → Token → Option State
at_named d Open = None
at_named d Close = None
at_named d (Name a) = None
at_named d (With p) = Some (WantName d)
at_named d (Not p) = None
at_named d (And p) = None
at_named d (Or p) = None
at_named d (Then p) = None

-- behind the word of a pair
abbrev pub at_second : ℕ → Token → Option State
at_second d Open = None
at_second d Close = None
at_second d (Name a) = Some (HavePart d)
at_second d (With p) = None
at_second d (Not p) = None
at_second d (And p) = None
at_second d (Or p) = None
at_second d (Then p) = None

abbrev pub closed : ℕ → Option State
closed zero = None
closed (suc d) = Some (HavePart d)

-- behind a part
abbrev pub at_have : ℕ → Token → Option State
at_have d Open = None
at_have d Close = closed d
at_have d (Name a) = None
at_have d (With p) = None
at_have d (Not p) = None
at_have d (And p) = Some (WantPart d)
at_have d (Or p) = Some (WantPart d)
at_have d (Then p) = Some (WantPart d)

-- the state behind one more token, where a rule has that token there
abbrev pub step : State → Token → Option State
step (WantPart d) k = at_want d k
step (HaveName d) k = at_named d k
step (WantName d) k = at_second d k
step (HavePart d) k = at_have d k

abbrev pub advance : Option State → Token → Option State
advance None k = None
advance (Some s) k = step s k

-- the state behind some tokens
abbrev pub run : Option State → List Token → Option State
run o [] = o
run o (k ∷ ks) = run (advance o k) ks

-- where a rule begins
abbrev pub start : Option State
start = Some (WantPart 0)

abbrev pub closed_all : ℕ → Bool
closed_all zero = true
closed_all (suc d) = false

-- whether a rule may end here
abbrev pub ended : State → Bool
ended (WantPart d) = false
ended (HaveName d) = false
ended (WantName d) = false
ended (HavePart d) = closed_all d

abbrev pub complete : Option State → Bool
complete None = false
complete (Some s) = ended s

-- whether the automaton accepts a token list
abbrev pub accepted : List Token → Bool
accepted ts = complete (run start ts)

-- the number of open parentheses
abbrev pub depth : State → ℕ
depth (WantPart d) = d
depth (HaveName d) = d
depth (WantName d) = d
depth (HavePart d) = d
