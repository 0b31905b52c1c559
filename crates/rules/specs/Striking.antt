-- Striking a rule. Rests on Entries and Items.
use Rattle.std.specs.Prelude.{ℕ, Bool, false, cond, length, Some, None, Ok, Err, Option, Result}
use Rattle.rules.specs.declared.fault.StrikeFault.{StrikeFault}
use Rattle.rules.specs.declared.fault.StrikeFault.TheVariants.{NeverGiven, StruckBefore}
use Rattle.rules.specs.Entries.{Entry, Entries}
use Rattle.rules.specs.Items.{item, altered_item}

-- a rule with another mark
abbrev pub marked : Bool → Entry → Entry
marked b e = record { tree = e.tree; force = b }

-- the rule with this number gets the mark, and nothing else changes
abbrev pub mark_set : ℕ → Bool → Entries → Entries
mark_set n b e = record { lots = e.lots; rules = altered_item (marked b) n e.rules }

-- what becomes of the rule with number n
abbrev pub strike_found : Entries → ℕ → Option Entry → Result Entries StrikeFault
strike_found e n None = Err (NeverGiven (length e.rules))
strike_found e n (Some x) = cond x.force (Ok (mark_set n false e)) (Err (StruckBefore n))

-- A number that was never given is refused with the number of rules that were, a rule that is not in force with its own number.
-- Otherwise the rule is in force no more.
abbrev pub struck : Entries → ℕ → Result Entries StrikeFault
struck e n = strike_found e n (item n e.rules)
