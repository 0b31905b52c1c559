use Rattle.std.proofs.Common.{IsSome, sym, refl, ◌∙◌, subst}
use Rattle.std.proofs.lemmas.Bool.{cond-true}
use Rattle.rules.proofs.numbering.LineLots.number.Goals as goal

pub unwrap-requires : goal.unwrap-requires
unwrap-requires c = subst IsSome (sym (c.number_of.ensures ∙ cond-true _ _ _ (c.args.self.now.known c.args.at c.requires))) refl
