use Rattle.std.proofs.Common.{◌≡◌, ap, ◌∙◌}
use Rattle.search.specs.Runs.{run_of, answered, shown_of}
use Rattle.search.specs.Searching.{outcome}
use Rattle.search.specs.States.{iterated}
use Rattle.search.proofs.Iterations.{run_written, told_shown}
use Rattle.search.proofs.machines.run_written.Goals as goal

pub returns : goal.returns
returns g c =
    let m = g.S.Written in
    let law = g.met.S.Written in
    let p = c.args.problem in
    let t = c.run.new.searcher in
    let (begun, begins, chain) = c.run.ensures.ran in
    let is : m.state t ≡ run_of m.start m.next p.variables p.codes.now p.budget =
    run_written m.next p.codes.now g.S.Searcher.view m.state _ law.status_shown (λ x y. law.goes_on x y p.codes.now) _ _ _ begun _ _ chain c.run.ensures.answers
    ∙ ap (iterated m.next p.codes.now p.budget) (law.starts _ begun p.variables begins) in
    record {
      answer = c.run.ensures.answers.answer ∙ ap (λ s. outcome s (g.S.Searcher.view t).age) (law.status_shown t) ∙ ap (outcome (m.state t).status) (law.age_shown t) ∙ ap answered is;
      after = is;
      shown = λ v. told_shown (g.S.Searcher.view t) (m.state t) (law.status_shown t) (law.variables_shown t) (law.values_shown t) v ∙ ap (λ s. shown_of s v) is;
    }
