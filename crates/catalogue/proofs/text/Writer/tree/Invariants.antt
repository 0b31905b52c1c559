use Rattle.std.proofs.Common.{◌≡◌, [], drop, map}
use Rattle.std.specs.Prelude.{string_bytes}
use Rattle.catalogue.proofs.Writing.{written_nodes}
use Rattle.catalogue.proofs.text.Writer.tree.Given as goal

abbrev pub invariant-loop-node : goal.invariant-loop-node
invariant-loop-node g l =
    let atom = g.L.Leaf.shown (map string_bytes l.self.names.now) in
    written_nodes atom (map string_bytes l.texts.items) (drop l.node-index l.nodes) ≡ written_nodes atom [] l.nodes
