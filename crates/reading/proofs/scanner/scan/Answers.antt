use Rattle.std.proofs.Common.{◌≡◌, Some, Err, sym, ap, ◌∙◌}
use Rattle.std.proofs.lemmas.Result.{err_from_is_err_and}
use Rattle.formula.specs.Held.{held}
use Rattle.grammar.specs.Automaton.{step}
use Rattle.reading.specs.declared.fault.RuleFault.TheVariants.{OutOfGrammar}
use Rattle.reading.proofs.Steps.{read_space, read_wrong, read_refused, refused_with, read_token, ends_wrong, ends_well}
use Rattle.reading.proofs.scanner.scan.Goals as goal

pub loop-at-preserved-then-line-at-eq32 : goal.loop-at-preserved-then-line-at-eq32
loop-at-preserved-then-line-at-eq32 c = read_space c.loop-at.invariant c.loop-at-test.true c.if-line-at-eq32.true

pub returns-in_err-token : goal.returns-in_err-token
returns-in_err-token c =
    let p = err_from_is_err_and c.from_residual.result c.from_residual.ensures.1 in
    rw (p.1, p.2) (read_wrong c.loop-at.invariant c.loop-at-test.true c.if-line-at-eq32.false c.in_err-token.field-0.0 c.in_err-token.ensures.value)

pub returns-in_err-state : goal.returns-in_err-state
returns-in_err-state c =
    let p = err_from_is_err_and c.from_residual-in_err-state.result c.from_residual-in_err-state.ensures.1 in
    let none = c.in_err-state.ensures.ok_part in
    let fault = refused_with c.after.result (OutOfGrammar c.loop-at.at) c.in_err-state.field-0.0 c.in_err-state.ensures.value none in
    rw (p.1, p.2) (ap Err fault ∙ read_refused c.loop-at.invariant c.loop-at-test.true c.if-line-at-eq32.false c.in_ok-token.token c.in_ok-token.size c.in_ok-token.ensures.value (sym c.after.ensures ∙ none))

pub loop-at-preserved : goal.loop-at-preserved
loop-at-preserved c =
    let z = c.in_ok-token.ensures.size in
    let taken : step c.loop-at.state c.in_ok-token.token ≡ Some c.in_ok-state.state = sym c.after.ensures ∙ c.in_ok-state.ensures.ok_part in
    read_token c.loop-at.invariant c.loop-at-test.true c.if-line-at-eq32.false c.in_ok-token.token c.in_ok-token.size c.in_ok-token.ensures.value
    c.in_ok-state.state c.is_tight-joined.result (held c.push.new.self) taken c.is_tight-joined.ensures c.push.ensures.more z.0 z.1

pub returns-then-not-may_end : goal.returns-then-not-may_end
returns-then-not-may_end c = ends_wrong c.loop-at.invariant c.loop-at-test.false (sym c.if-not-may_end.ensures)

pub returns : goal.returns
returns c = ends_well c.loop-at.invariant c.loop-at-test.false (sym c.if-not-may_end.ensures)
