use Rattle.std.proofs.Common.{◌≡◌, ℕ, [], ◌∷◌, ◌++◌, sym, ap, ◌∙◌, ap₂}
use Rattle.formula.specs.Held.{held}
use Rattle.formula.specs.declared.node.Node.{Node}
use Rattle.formula.specs.declared.node.Node.TheVariants.{Leaf}
use Rattle.formula.specs.declared.node.Pair.{Pair}
use Rattle.grammar.specs.Names.{find, enlist}
use Rattle.grammar.proofs.Numbering.{enlist_has, enlist_find, enlist_keeps}
use Rattle.grammar.proofs.draft.Draft.pair.Goals as goal

pub returns-clause-nodes : goal.returns-clause-nodes
returns-clause-nodes c =
    let ns = held c.args.self.now.names in
    let x = c.args.first in
    let y = c.args.second in
    let e = c.number-one.ensures.names in
    let f = c.number-other.ensures.names ∙ ap (λ s. enlist s y) e in
    let one : c.number-one.result ≡ find x.name (enlist (enlist ns x) y) =
    c.number-one.ensures.number ∙ sym (enlist_find ns x) ∙ sym (enlist_keeps x.name (enlist ns x) y (enlist_has ns x)).0 in
    let other : c.number-other.result ≡ find y.name (enlist (enlist ns x) y) =
    c.number-other.ensures.number ∙ ap (find y.name) e ∙ sym (enlist_find (enlist ns x) y) in
    let node : ℕ → ℕ → Node (Pair ℕ) = λ i j. Leaf (record { place = c.args.place; first = i; second = j }) in
    c.push.ensures.more ∙ ap₂ (λ i j. held c.args.self.now.nodes ++ node i j ∷ []) (one ∙ ap (find x.name) (sym f)) (other ∙ ap (find y.name) (sym f))
