use Rattle.std.proofs.Common.{rules, ◌≡◌, ◌<◌, sym, ◌∙◌, subst, arith}
use Rattle.search.specs.Limits.{age_limit}
use Rattle.search.specs.Searching.{Stepped, here, steps_of}
use Rattle.search.proofs.Iterations.{steps_outcome}
use Rattle.search.proofs.Standings.{stepped_more, standing_begun, standing_moved, standing_answers}
use Rattle.search.proofs.running.run_watched.Goals as goal
use Rattle.search.proofs.running.run_watched.Goals.{else-loop-test, then-loop-test+in_default}

pub loop-init : goal.loop-init
loop-init g c = record { standing = standing_begun _ _ _ _ c.begin.ensures.begun; stepped = here }

pub loop-preserved : goal.loop-preserved
loop-preserved g c =
    let at = c.loop.invariant.standing in
    let working = sym c.in-Working.ensures in
    let young : (g.S.Searcher.view c.loop.searcher).age < age_limit = omega (arith, at.at_age) in
    record {
      standing = standing_moved _ _ _ _ _ _ at working (c.step.ensures.moves at.at_sound working young);
      stepped = stepped_more _ c.loop.invariant.stepped working c.step.ensures.steps;
    }

pub returns-clause-answers : goal.returns-clause-answers
returns-clause-answers g c =
    let at = c.loop.invariant.standing in
    standing_answers _ _ _ c.loop.counter _ _ _ at (omega arith)
    (λ working. elim c.loop-test.branch [ else-loop-test w ↦ omega arith | then-loop-test+in_default w ↦ absurd (w.in_default.not-Working (w.status.ensures ∙ working)) ])
    (g.met.S.Searcher.lively c.loop.searcher at.at_sound)
    (search rules)

pub returns-clause-ran : goal.returns-clause-ran
returns-clause-ran g c =
    let m = g.S.Searcher in
    let count : c.loop.counter ≡ steps_of c.new.result = search (rules, steps_outcome) in
    (_, c.begin.ensures.begins, subst (λ n. Stepped m.view (λ s t. m.steps s c.args.problem.codes.now t) n c.begin.new.self c.loop.searcher) count c.loop.invariant.stepped)
