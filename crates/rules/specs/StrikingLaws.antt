-- What holds after a strike, and of a mark that is put back (statements). Rests on Entries, Items, Marks and Views.
use Rattle.std.specs.Prelude.{◌≡◌, ℕ, Bool, ◌≢◌, Some}
use Rattle.rules.specs.declared.tables.Tables.{Tables}
use Rattle.rules.specs.Asking.{mark_at}
use Rattle.rules.specs.Entries.{Entry, Entries}
use Rattle.rules.specs.Items.{item}
use Rattle.rules.specs.Marks.{row_marked}
use Rattle.rules.specs.Views.{entered}

-- The rule with number n, which has this mark now, keeps its formula. Every other rule, and every lot, is as it was.
pub record Marked (n : ℕ) (b : Bool) (before after : Entries) : Type 0 where
  pub lots : after.lots ≡ before.lots
  pub this : (e : Entry) → item n before.rules ≡ Some e → item n after.rules ≡ Some (record { tree = e.tree; force = b })
  pub others : (k : ℕ) → k ≢ n → item k after.rules ≡ item k before.rules

-- The same of a program's tables, field by field: the rules in place, those that were given and what stands behind them, with the mark on the rule
-- with number n.
pub record MarkedFields (n : ℕ) (b : Bool) (before after : Tables) : Type 0 where
  pub rows : after.rules.items ≡ row_marked before.rules.count n b before.rules.items
  pub lots : after.lots ≡ before.lots
  pub given : after.rules.count ≡ before.rules.count

-- A mark that is set, and then set to what it was, leaves the tables as they were, in every field.
abbrev pub PutBack : Type 0
PutBack = (a b c : Tables) (n : ℕ) (x y : Bool) → mark_at n (entered a).rules ≡ Some y → MarkedFields n x a b → MarkedFields n y b c → c ≡ a
