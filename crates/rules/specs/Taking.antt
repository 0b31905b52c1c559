-- Taking a line. Rests on Entries, Adding and OverLots, and on Readings of crate grammar.
use Rattle.std.specs.Prelude.{ℕ, true, cond, List, [], ◌∷◌, ◌++◌, length, Ok, Err, Result, nat_lt}
use Rattle.grammar.specs.declared.name.Name.{Name}
use Rattle.grammar.specs.Readings.{Reading}
use Rattle.rules.specs.declared.fault.TakeFault.{TakeFault}
use Rattle.rules.specs.declared.fault.TakeFault.TheVariants.{RulesFull}
use Rattle.rules.specs.Adding.{lots_added}
use Rattle.rules.specs.Entries.{Entries}
use Rattle.rules.specs.OverLots.{tree_over_lots}
use Rattle.rules.specs.Outcomes.{and_then}

-- these lots, and behind the rules that of a line, in force
abbrev pub with_rule : Entries → Reading → List Name → Entries
with_rule e l ls = record { lots = ls; rules = e.rules ++ record { tree = tree_over_lots ls l.names l.tree; force = true } ∷ [] }

-- A 33rd rule is refused. Otherwise the line's names become lots where they are none, and its rule is added; a 25th lot is refused.
abbrev pub taken : Entries → Reading → Result Entries TakeFault
taken e l = cond (nat_lt (length e.rules) 32) (and_then (lots_added e.lots l.names) (λ ls. Ok (with_rule e l ls))) (Err RulesFull)

-- the answer: the number of the rule that was added last, or why none was
abbrev pub last_number : Result Entries TakeFault → Result ℕ TakeFault
last_number (Ok e) = Ok (length e.rules)
last_number (Err f) = Err f
