use Rattle.std.proofs.Common.{◌≡◌, ◌≤◌, List, IsSomeAnd, IfOk, Err, sym, ap, ◌∙◌, subst, arith}
use Rattle.std.proofs.lemmas.Result.{err_from_is_err_and}
use Rattle.formula.specs.Held.{held}
use Rattle.grammar.specs.declared.token.Token.{Token}
use Rattle.grammar.specs.Automaton.{accepted}
use Rattle.grammar.specs.Parser.{parse}
use Rattle.grammar.specs.Readings.{said, reading_of}
use Rattle.grammar.specs.Words.{words, Rising}
use Rattle.reading.specs.Lines.{WellRead}
use Rattle.reading.specs.Reading.{shown}
use Rattle.reading.proofs.Decoded.{decoded_exactly, stored_exactly}
use Rattle.reading.proofs.Taken.{well_read}
use Rattle.reading.proofs.Replies.{Owed, fits, unfit, wrong, well, many, said_so}
use Rattle.reading.proofs.reader.read.Goals as goal

pub returns-in_err-measure : goal.returns-in_err-measure
returns-in_err-measure c =
    let p = err_from_is_err_and c.from_residual.result c.from_residual.ensures.1 in
    let o = subst (Owed c.args.line.now) (sym (ap shown p.1 ∙ ap Err p.2)) (unfit c.args.line.now c.in_err-measure.field-0.0 (sym c.in_err-measure.ensures)) in
    record { exact = o.0; meaning = o.1; well_read = subst (λ r. IfOk r (λ l. WellRead c.args.line.now l)) (sym p.1) tt; only = o.2; spelling = decoded_exactly; names = stored_exactly }

pub returns-in_err-tokens : goal.returns-in_err-tokens
returns-in_err-tokens c =
    let p = err_from_is_err_and c.from_residual-in_err-tokens.result c.from_residual-in_err-tokens.ensures.1 in
    let l = fits c.args.line.now (sym c.in_ok-measure.ensures) in
    let o = subst (Owed c.args.line.now) (sym (ap shown p.1 ∙ ap Err p.2)) (wrong c.args.line.now l c.in_err-tokens.field-0.0 c.in_err-tokens.ensures) in
    record { exact = o.0; meaning = o.1; well_read = subst (λ r. IfOk r (λ l. WellRead c.args.line.now l)) (sym p.1) tt; only = o.2; spelling = decoded_exactly; names = stored_exactly }

pub returns-then-words-gt-MAX_NODES : goal.returns-then-words-gt-MAX_NODES
returns-then-words-gt-MAX_NODES c =
    let l = fits c.args.line.now (sym c.in_ok-measure.ensures) in
    let o = many c.args.line.now l (held c.in_ok-tokens.tokens) c.in_ok-tokens.ensures c.count_words-words.result (c.count_words-words.ensures ∙ ap words c.items.ensures) c.if-words-gt-MAX_NODES.true in
    record { exact = o.0; meaning = o.1; well_read = tt; only = o.2; spelling = decoded_exactly; names = stored_exactly }

pub build-requires : goal.build-requires
build-requires c =
    let l = fits c.args.line.now (sym c.in_ok-measure.ensures) in
    let w = well c.args.line.now l (held c.in_ok-tokens.tokens) c.in_ok-tokens.ensures in
    record {
      rule = ap accepted c.items-2.ensures ∙ w.0;
      few = omega (arith, ap words c.items-2.ensures, ap words c.items.ensures, c.count_words-words.ensures, c.if-words-gt-MAX_NODES.false);
      placed = subst (Rising 0 512) (sym c.items-2.ensures) w.1;
    }

pub returns : goal.returns
returns c =
    let l = fits c.args.line.now (sym c.in_ok-measure.ensures) in
    let few : words (held c.in_ok-tokens.tokens) ≤ 32 = omega (arith, ap words c.items.ensures, c.count_words-words.ensures, c.if-words-gt-MAX_NODES.false) in
    let o = said_so c.args.line.now l (held c.in_ok-tokens.tokens) c.in_ok-tokens.ensures (said c.build.result) few
    (subst (λ (ts : List Token). IsSomeAnd (parse ts) (λ t. said c.build.result ≡ reading_of t)) c.items-2.ensures c.build.ensures.says) in
    record { exact = o.0; meaning = o.1; well_read = well_read c.args.line.now c.build.result o; only = o.2; spelling = decoded_exactly; names = stored_exactly }
