use Rattle.std.proofs.Common.{arith, rules, ◌-◌}
use Rattle.formula.specs.Held.{held}
use Rattle.rules.specs.Entered.{entry_of}
use Rattle.rules.proofs.Numbered.{told_item}
use Rattle.rules.proofs.tables.Tables.rule.Goals as goal

pub returns : goal.returns
returns c =
    told_item entry_of (held c.args.self.now.rules) c.items.result.now c.args.number (c.args.number - 1) c.items.ensures (omega (arith, c.in_ok-row.ensures.0, c.in_ok-row.ensures.1)) _ (search rules)
