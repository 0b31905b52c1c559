-- What a program's rules hold. Rests on Entries, and on Formulas and Held of crate formula.
use Rattle.std.specs.Prelude.{ℕ, List, map}
use Rattle.formula.specs.declared.bounded.Bounded.{Bounded}
use Rattle.formula.specs.Formulas.{formula_tree}
use Rattle.formula.specs.Held.{held}
use Rattle.rules.specs.declared.rule.Rule.{Rule}
use Rattle.rules.specs.Entries.{Entry}

-- a rule
abbrev pub entry_of : Rule → Entry
entry_of r = record { tree = formula_tree r.formula; force = r.in_force }

-- all rules of a list, in their order
abbrev pub entries_in : {N : ℕ} → Bounded Rule N → List Entry
entries_in rs = map entry_of (held rs)
