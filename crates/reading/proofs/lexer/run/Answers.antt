use Rattle.std.proofs.Common.{◌≡◌, sym, ◌∙◌, arith, rules, tests}
use Rattle.std.specs.List.{prefix_len}
use Rattle.std.proofs.lemmas.Iterator.{YieldsList-from_slice}
use Rattle.std.proofs.lemmas.Iterator.Consumers.{count_from_yields_List}
use Rattle.std.proofs.lemmas.Iterator.Search.{YieldsList-from_take_while}
use Rattle.std.proofs.lemmas.List.Folds.{length-prefix_len}
use Rattle.std.proofs.lemmas.List.Sums.{prefix_len-le-length}
use Rattle.reading.specs.Bytes.{lower}
use Rattle.reading.proofs.Letters.{run_is}
use Rattle.reading.proofs.lexer.run.Goals as goal

pub returns : goal.returns
returns c =
    let bytes = c.args.rest.now in
    let e : c.count.result ≡ prefix_len lower bytes =
    count_from_yields_List c.take_while.result _ c.count.ensures.ran
    (YieldsList-from_take_while _ lower (YieldsList-from_slice bytes (cc)) c.take_while.ensures.closure c.take_while.ensures.done (λ x b q k. search (rules, tests)))
    ∙ length-prefix_len lower bytes in
    record { value = e ∙ sym (run_is bytes); within = omega (arith, prefix_len-le-length lower bytes) }
