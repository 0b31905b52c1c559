-- How deep the parentheses are.
use Rattle.std.proofs.Common.{◌≡◌, ℕ, zero, suc, ◌+◌, ◌≤◌, Some, None, Option, subst, arith}
use Rattle.grammar.specs.declared.token.Token.{Token}
use Rattle.grammar.specs.declared.token.Token.TheVariants.{Open, Close, Name, With, Not, And, Or, Then}
use Rattle.grammar.specs.declared.state.State.{State}
use Rattle.grammar.specs.declared.state.State.TheVariants.{WantPart, HaveName, WantName, HavePart}
use Rattle.grammar.specs.Automaton.{step, depth}

-- one deeper at most
abbrev Deeper : ℕ → Option State → Type 0
Deeper n None = Unit {0}
Deeper n (Some q) = depth q ≤ n + 1

deep : (s : State) (k : Token) → Deeper (depth s) (step s k)
deep (WantPart d) Open = omega arith
deep (WantPart d) Close = tt
deep (WantPart d) (Name a) = omega arith
deep (WantPart d) (With p) = tt
deep (WantPart d) (Not p) = omega arith
deep (WantPart d) (And p) = tt
deep (WantPart d) (Or p) = tt
deep (WantPart d) (Then p) = tt
deep (HaveName d) Open = tt
deep (HaveName d) Close = tt
deep (HaveName d) (Name a) = tt
deep (HaveName d) (With p) = omega arith
deep (HaveName d) (Not p) = tt
deep (HaveName d) (And p) = tt
deep (HaveName d) (Or p) = tt
deep (HaveName d) (Then p) = tt
deep (WantName d) Open = tt
deep (WantName d) Close = tt
deep (WantName d) (Name a) = omega arith
deep (WantName d) (With p) = tt
deep (WantName d) (Not p) = tt
deep (WantName d) (And p) = tt
deep (WantName d) (Or p) = tt
deep (WantName d) (Then p) = tt
deep (HavePart d) Open = tt
deep (HavePart zero) Close = tt
deep (HavePart (suc d)) Close = omega arith
deep (HavePart d) (Name a) = tt
deep (HavePart d) (With p) = tt
deep (HavePart d) (Not p) = tt
deep (HavePart d) (And p) = omega arith
deep (HavePart d) (Or p) = omega arith
deep (HavePart d) (Then p) = omega arith

pub depth_step : (s q : State) (k : Token) → step s k ≡ Some q → depth q ≤ depth s + 1
depth_step s q k e = subst (Deeper (depth s)) e (deep s k)
