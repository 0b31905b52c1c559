-- The reply to a line that is taken, from its parts. Rests on specs/Replies.
use Rattle.std.proofs.Common.{◌≡◌, ℕ, true, false, List, ◌++◌, codes, map, ap, ◌∙◌}
use Rattle.formula.specs.Normal.{nnf}
use Rattle.formula.specs.Scales.{two}
use Rattle.formula.specs.Truth.{truth}
use Rattle.grammar.specs.Readings.{Reading}
use Rattle.catalogue.specs.Firing.{fires, spoken}
use Rattle.catalogue.specs.Replies.{taken_reply}
use Rattle.catalogue.specs.Texts.{shown_name, shown_pair, shown_literal, shown_tree}

pub taken_from : (x : Reading) (names : List (List ℕ)) (text normal alone together : List ℕ)
    → names ≡ map shown_name x.names
    → text ≡ shown_tree (shown_pair names) x.tree
    → normal ≡ shown_tree (shown_literal names) (nnf true x.tree)
    → alone ≡ spoken (truth two (fires false) x.tree)
    → together ≡ spoken (truth two (fires true) x.tree)
    → text ++ (codes "\n  normal form " ++ (normal ++ (codes "\n  alone " ++ (alone ++ (codes ", together " ++ (together ++ codes "\n")))))) ≡ taken_reply x
taken_from x names text normal alone together n t f a b =
    let as_read = t ∙ ap (λ ns. shown_tree (shown_pair ns) x.tree) n in
    let in_form = f ∙ ap (λ ns. shown_tree (shown_literal ns) (nnf true x.tree)) n in
    λ i. as_read i ++ (codes "\n  normal form " ++ (in_form i ++ (codes "\n  alone " ++ (a i ++ (codes ", together " ++ (b i ++ codes "\n"))))))
