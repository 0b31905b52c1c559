-- The mark of a program's rule. Rests on Items.
use Rattle.std.specs.Prelude.{ℕ, Bool, cond, List, nat_le}
use Rattle.rules.specs.declared.rule.Rule.{Rule}
use Rattle.rules.specs.Items.{altered_item}

-- the rule with another mark
abbrev pub with_mark : Bool → Rule → Rule
with_mark b r = record { formula = r.formula; in_force = b }

-- rules in place, of which the first g have been given, with another mark on the one with number n; a number that was not given changes nothing
abbrev pub row_marked : ℕ → ℕ → Bool → List Rule → List Rule
row_marked g n b rs = cond (nat_le n g) (altered_item (with_mark b) n rs) rs
