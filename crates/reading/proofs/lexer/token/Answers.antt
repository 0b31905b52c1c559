use Rattle.std.proofs.Common.{ℕ, List, length, ap, ◌∙◌, rules}
use Rattle.std.proofs.lemmas.List.{take_rest}
use Rattle.reading.specs.Scan.{run_of}
use Rattle.reading.proofs.Seen.{sees_word, sees_no_word}
use Rattle.reading.proofs.lexer.token.Goals as goal

pub returns-in-Some-clause-value : goal.returns-in-Some-clause-value
returns-in-Some-clause-value c =
    sees_word c.args.rest.now c.args.at (search rules) c.run-size.result (search rules)
    (c.run-size.ensures.value ∙ ap (λ (s : List ℕ). length (run_of s)) (take_rest c.args.rest.now 1)) c.in-Some.token c.in-Some.ensures

pub returns-in-None-clause-value : goal.returns-in-None-clause-value
returns-in-None-clause-value c =
    sees_no_word c.args.rest.now c.args.at (search rules) c.run-size.result (search rules)
    (c.run-size.ensures.value ∙ ap (λ (s : List ℕ). length (run_of s)) (take_rest c.args.rest.now 1)) c.in-None.ensures
