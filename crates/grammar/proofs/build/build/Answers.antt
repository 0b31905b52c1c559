use Rattle.std.proofs.Common.{ℕ, List, length, ap, ◌∙◌}
use Rattle.formula.specs.declared.node.Node.{Node}
use Rattle.formula.specs.declared.node.Pair.{Pair}
use Rattle.formula.specs.Table.{tree_of}
use Rattle.formula.specs.Within.{within}
use Rattle.formula.specs.Held.{held}
use Rattle.grammar.proofs.Builds.{built, says}
use Rattle.grammar.proofs.Complete.{one_tree}
use Rattle.grammar.proofs.Prefixes.{viable}
use Rattle.grammar.proofs.Sound.{parsed_exactly, accepted_exactly}
use Rattle.grammar.proofs.build.build.Goals as goal

pub new-requires : goal.new-requires
new-requires c =
    let b = built c.args.tokens.now c.climb.result c.new-draft.result c.climb.new.out c.requires.rule c.requires.placed c.new-draft.ensures.nodes c.new-draft.ensures.names c.climb.ensures in
    record { whole = b.whole; in_order = b.in_order }

pub invariant_of-result : goal.invariant_of-result
invariant_of-result c =
    let b = built c.args.tokens.now c.climb.result c.new-draft.result c.climb.new.out c.requires.rule c.requires.placed c.new-draft.ensures.nodes c.new-draft.ensures.names c.climb.ensures in
    record { named = ap (λ (ns : List (Node (Pair ℕ))). within (length (held c.climb.new.out.names)) (tree_of ns)) c.new.ensures ∙ b.named }

pub returns : goal.returns
returns c =
    let b = built c.args.tokens.now c.climb.result c.new-draft.result c.climb.new.out c.requires.rule c.requires.placed c.new-draft.ensures.nodes c.new-draft.ensures.names c.climb.ensures in
    record {
      says = says c.args.tokens.now c.climb.new.out _ b (ap (λ (ns : List (Node (Pair ℕ))). record { tree = tree_of ns; names = held c.climb.new.out.names }) c.new.ensures);
      tree = parsed_exactly;
      only = one_tree;
      rules = accepted_exactly;
      prefix = viable;
    }
