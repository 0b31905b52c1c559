use Rattle.std.proofs.Common.{map, ◌∙◌}
use Rattle.std.specs.Prelude.{string_bytes}
use Rattle.catalogue.proofs.Writing.{whole_written}
use Rattle.catalogue.proofs.text.Writer.tree.Goals as goal

pub returns : goal.returns
returns g c d =
    c.whole.ensures
    ∙ whole_written (g.L.Leaf.shown (map string_bytes c.args.self.now.names.now)) d c.args.table.now.nodes.now c.args.table.now.first c.requires.some (map string_bytes c.loop-node.texts.items) c.loop-node.node-index c.loop-node-test.false c.loop-node.invariant
