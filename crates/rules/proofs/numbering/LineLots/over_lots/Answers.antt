use Rattle.std.proofs.Common.{length, ap, ◌∙◌, arith}
use Rattle.std.proofs.lemmas.List.Sums.{AllPass-from_list_all}
use Rattle.formula.specs.Formulas.{nodes_of}
use Rattle.formula.specs.Held.{held}
use Rattle.formula.specs.Table.{tree_of, map_node}
use Rattle.formula.specs.Tree.{map_pair}
use Rattle.formula.specs.Within.{pair_below}
use Rattle.rules.specs.Leaves.{leaf_passes}
use Rattle.rules.specs.LotNames.{lots_in}
use Rattle.rules.specs.OverLots.{lot_of_named}
use Rattle.rules.proofs.LeafTests.{formula_leaves}
use Rattle.rules.proofs.Renumbered.{all_through, made_tree, made_whole, made_in_order}
use Rattle.rules.proofs.numbering.LineLots.over_lots.Goals as goal

pub node-requires : goal.node-requires
node-requires c =
    let f = c.args.formula.now in
    let n = length c.args.self.now.names.now in
    AllPass-from_list_all (leaf_passes (pair_below n)) c.nodes-node-items.result.now
    (formula_leaves (pair_below n) (nodes_of f) c.nodes-node-items.result.now f.whole c.nodes-node-items.ensures.items c.requires)
    c.loop-node.node-index _ (omega arith)

pub new-requires : goal.new-requires
new-requires c =
    let f = c.args.formula.now in
    let g = lot_of_named (lots_in c.args.self.now.lots.now) c.args.self.now.names.now in
    let hs = held c.loop-node.table in
    let made = all_through (map_node (map_pair g)) (nodes_of f) c.nodes-node-items.result.now hs c.loop-node.node-index c.loop-node.invariant c.nodes-node-items.ensures.items (omega arith) in
    record {
      whole = made_whole g (nodes_of f) hs f.whole made;
      in_order = made_in_order g (nodes_of f) hs f.whole made f.in_order;
    }

pub returns : goal.returns
returns c =
    let f = c.args.formula.now in
    let g = lot_of_named (lots_in c.args.self.now.lots.now) c.args.self.now.names.now in
    let hs = held c.loop-node.table in
    let made = all_through (map_node (map_pair g)) (nodes_of f) c.nodes-node-items.result.now hs c.loop-node.node-index c.loop-node.invariant c.nodes-node-items.ensures.items (omega arith) in
    ap tree_of c.new.ensures ∙ made_tree g (nodes_of f) hs f.whole made
