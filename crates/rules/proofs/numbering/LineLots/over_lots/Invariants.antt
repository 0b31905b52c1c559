use Rattle.std.proofs.Common.{◌≡◌, map, take}
use Rattle.formula.specs.Held.{held}
use Rattle.formula.specs.Tree.{map_pair}
use Rattle.formula.specs.Table.{map_node}
use Rattle.rules.specs.LotNames.{lots_in}
use Rattle.rules.specs.OverLots.{lot_of_named}
use Rattle.rules.proofs.numbering.LineLots.over_lots.Given as goal

abbrev pub invariant-loop-node : goal.invariant-loop-node
invariant-loop-node l = held l.table ≡ map (map_node (map_pair (lot_of_named (lots_in l.self.lots.now) l.self.names.now))) (take l.node-index l.node-items)
