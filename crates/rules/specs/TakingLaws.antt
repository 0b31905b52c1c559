-- What holds after an accepted line (statements). Rests on Entries, Items and OverLots.
use Rattle.std.specs.Prelude.{◌≡◌, ℕ, ◌<◌, ◌≤◌, [], ◌∷◌, ◌++◌, length, take, Some, slice_index_or}
use Rattle.grammar.specs.Names.{nobody}
use Rattle.grammar.specs.Readings.{Reading}
use Rattle.rules.specs.Entries.{Entries, rules_in_force}
use Rattle.rules.specs.Items.{item}
use Rattle.rules.specs.OverLots.{lot_of_named, tree_over_lots}

-- The lots and the rules before it keep their numbers. Each name of the line is the name of the lot that stands for it in the rule.
-- In force are the rules that were, and behind them the new one. There are at most 24 lots and at most 32 rules.
pub record Took (before after : Entries) (l : Reading) : Type 0 where
  pub older_lots : take (length before.lots) after.lots ≡ before.lots
  pub older_rules : take (length before.rules) after.rules ≡ before.rules
  pub named : (i : ℕ) → i < length l.names → item (lot_of_named after.lots l.names i) after.lots ≡ Some (slice_index_or l.names i nobody).name
  pub forces : rules_in_force after.rules ≡ rules_in_force before.rules ++ tree_over_lots after.lots l.names l.tree ∷ []
  pub few_lots : length after.lots ≤ 24
  pub few_rules : length after.rules ≤ 32
