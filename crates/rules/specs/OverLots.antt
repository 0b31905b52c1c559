-- A formula over a line's names, taken over the lots that they are. Rests on Numbers, and on Tree of crate formula.
use Rattle.std.specs.Prelude.{◌≡◌, ℕ, ◌<◌, true, List, length, slice_index_or}
use Rattle.formula.specs.declared.node.Pair.{Pair}
use Rattle.formula.specs.Tree.{Tree, map_tree, map_pair}
use Rattle.grammar.specs.declared.name.Name.{Name}
use Rattle.grammar.specs.declared.name.Named.{Named}
use Rattle.grammar.specs.Names.{nobody}
use Rattle.rules.specs.Numbers.{lot_of, is_lot}

-- the lot that the line's name with this number, from 0, is
abbrev pub lot_of_named : List Name → List Named → ℕ → ℕ
lot_of_named ls xs i = lot_of (slice_index_or xs i nobody).name ls

-- each of a line's names is a lot
abbrev pub AreLots : List Name → List Named → Type 0
AreLots ls xs = (i : ℕ) → i < length xs → is_lot (slice_index_or xs i nobody).name ls ≡ true

-- the same formula, with the words where they stand
abbrev pub tree_over_lots : List Name → List Named → Tree (Pair ℕ) → Tree (Pair ℕ)
tree_over_lots ls xs t = map_tree (map_pair (lot_of_named ls xs)) t
