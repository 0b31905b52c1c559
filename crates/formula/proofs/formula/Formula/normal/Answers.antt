use Rattle.std.proofs.Common.{◌≡◌, length, ap, arith}
use Rattle.formula.specs.Formulas.{nodes_of, formula_tree}
use Rattle.formula.specs.Held.{held}
use Rattle.formula.proofs.Made.{top_tree, room_made, made_tree, made_whole, made_normal, made_in_order, made_kept}
use Rattle.formula.proofs.formula.Formula.normal.Goals as goal

pub append-requires : goal.append-requires
append-requires c =
    let f = c.args.self.now in
    let e = top_tree (nodes_of f) c.table.result.nodes.now c.len.result c.table.ensures c.len.ensures.count in
    let n : length c.table.result.nodes.now ≡ length (nodes_of f) = ap length c.table.ensures in
    record {
      within = omega arith;
      room = room_made (nodes_of f) _ (held c.new-table.result) f.whole e (omega arith) c.new-table.ensures;
    }

pub invariant_of-result : goal.invariant_of-result
invariant_of-result c =
    let f = c.args.self.now in
    let e = top_tree (nodes_of f) c.table.result.nodes.now c.len.result c.table.ensures c.len.ensures.count in
    let hs = held c.append.new.out in
    record {
      whole = made_whole (formula_tree f) _ _ hs c.new-table.ensures e c.append.ensures.more;
      normal = made_normal (formula_tree f) _ _ hs c.new-table.ensures e c.append.ensures.more;
      in_order = made_in_order (formula_tree f) _ _ hs c.new-table.ensures e c.append.ensures.more f.in_order;
    }

pub returns : goal.returns
returns c =
    let f = c.args.self.now in
    let e = top_tree (nodes_of f) c.table.result.nodes.now c.len.result c.table.ensures c.len.ensures.count in
    let hs = held c.append.new.out in
    record {
      tree = made_tree (formula_tree f) _ _ hs c.new-table.ensures e c.append.ensures.more;
      kept = made_kept (formula_tree f) _ _ hs c.new-table.ensures e c.append.ensures.more;
    }
