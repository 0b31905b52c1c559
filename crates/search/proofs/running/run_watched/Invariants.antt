use Rattle.search.specs.Limits.{capped}
use Rattle.search.specs.Searching.{Stepped}
use Rattle.search.proofs.Standings.{Standing}
use Rattle.search.proofs.running.run_watched.Given as goal

abbrev pub invariant-loop : goal.invariant-loop
invariant-loop g l =
    let m = g.S.Searcher in
    record {
      standing : Standing (capped l.problem.variables) (m.stated (capped l.problem.variables)) l.problem.codes.now l.counter (m.view l.searcher);
      stepped : Stepped m.view (λ s t. m.steps s l.problem.codes.now t) l.counter l.initial.searcher l.searcher;
    }
