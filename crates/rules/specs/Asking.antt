-- What can be asked of the tables. Rests on Entries, Items and Keeping.
use Rattle.std.specs.Prelude.{ℕ, Bool, cond, List, length, None, Option, nat_le}
use Rattle.std.specs.Option.{option_map}
use Rattle.formula.specs.declared.node.Pair.{Pair}
use Rattle.formula.specs.Tree.{Tree}
use Rattle.rules.specs.Entries.{Entry, Entries}
use Rattle.rules.specs.Items.{item}
use Rattle.rules.specs.Keeping.{kept_in, by_lot}

-- whether the rule with a number is in force, if it was given
abbrev pub mark_at : ℕ → List Entry → Option Bool
mark_at n es = option_map (λ (e : Entry). e.force) (item n es)

-- the formula of the rule with a number, if it was given
abbrev pub tree_at : ℕ → List Entry → Option (Tree (Pair ℕ))
tree_at n es = option_map (λ (e : Entry). e.tree) (item n es)

-- whether the numbering by a list of firings keeps the rule with a number; no answer if it was never given, or if a lot has no firing in the list
abbrev pub keep_answer : Entries → ℕ → List ℕ → Option Bool
keep_answer e n fs = cond (nat_le (length e.lots) (length fs)) (option_map (kept_in (by_lot fs)) (tree_at n e.rules)) None
