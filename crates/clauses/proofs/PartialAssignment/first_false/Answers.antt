use Rattle.std.proofs.Common.{rules, ℕ, ◌≡◌, ◌*◌, Bool, take, drop, ap, ◌∙◌}
use Rattle.std.proofs.lemmas.List.{take_all}
use Rattle.std.specs.List.{list_all}
use Rattle.clauses.specs.Falsity.{false_code, false_clause, first_false_row}
use Rattle.clauses.proofs.Firsts.{first_of}
use Rattle.clauses.proofs.Rows.{row_tested}
use Rattle.clauses.proofs.Tells.{told_as, told_all_as}
use Rattle.clauses.proofs.PartialAssignment.first_false.Goals as goal

pub returns : goal.returns
unfolding first_false_row
returns c =
    let top = c.args.self.variables in
    let values = c.args.self.values.now in
    let given = c.chunks_exact.result.rest.now in
    let whole : given ≡ c.args.codes.now = search (rules, take_all) in
    let read = c.position.ensures.runs.0.reads in
    let tests : ℕ → Bool = λ row. list_all (false_code top values) (take 3 (drop (row * 3) given)) in
    let found : c.position.result ≡ first_false_row top values given =
    first_of (false_clause top values given) tests _ c.position.result (row_tested top values given)
    (λ e j l. let r = read j c.args.codes in search (rules, take_all))
    (λ i e. (search rules, search (rules, take_all), λ j l. let r = read j c.args.codes in search (rules, take_all))) in
    let is = found ∙ ap (first_false_row top values) whole in
    record { value = search rules; told = told_as _ _ _ _ (search rules); told_of_all = told_all_as _ _ _ _ (search rules) }
