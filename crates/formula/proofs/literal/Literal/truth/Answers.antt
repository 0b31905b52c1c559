use Rattle.std.proofs.Common.{true, sym, refl, ap, ◌∙◌}
use Rattle.formula.specs.Normal.{signed}
use Rattle.formula.proofs.Signs.{nnf_truth}
use Rattle.formula.proofs.literal.Literal.truth.Goals as goal

pub returns-then-self : goal.returns-then-self
returns-then-self g c =
    let s = g.S.Scale in
    let m = g.met.S.Scale in
    record {
      value = sym (ap (λ b. signed s.ops b c.args.pair) c.if-self.true);
      same = λ t v. nnf_truth s.ops (record { twice = m.twice; dual = m.dual }) v true t;
      implication = λ v p q t u. refl;
    }

pub returns-else-self : goal.returns-else-self
returns-else-self g c =
    let s = g.S.Scale in
    let m = g.met.S.Scale in
    record {
      value = c.opposite.ensures ∙ sym (ap (λ b. signed s.ops b c.args.pair) c.if-self.false);
      same = λ t v. nnf_truth s.ops (record { twice = m.twice; dual = m.dual }) v true t;
      implication = λ v p q t u. refl;
    }
