use Rattle.std.proofs.Common.{◌+◌, take, drop, sym, ap, ◌∙◌, arith}
use Rattle.std.proofs.lemmas.List.{take_all, take_rest, drop_all}
use Rattle.lines.proofs.Ends.{ends_at, ends_never}
use Rattle.lines.proofs.first_line.Goals as goal

pub returns-in-Some-clause-line : goal.returns-in-Some-clause-line
returns-in-Some-clause-line c = ap (λ n. take n c.args.bytes.now) (ends_at c.args.bytes.now _ c.in-Some.ensures)

pub returns-in-Some-clause-after : goal.returns-in-Some-clause-after
returns-in-Some-clause-after c = take_rest c.args.bytes.now (c.in-Some.end + 1) ∙ ap (λ n. drop (n + 1) c.args.bytes.now) (ends_at c.args.bytes.now _ c.in-Some.ensures)

pub returns-in-None : goal.returns-in-None
returns-in-None c =
    let e = ends_never c.args.bytes.now c.in-None.ensures in
    record { line = sym (take_all _ c.args.bytes.now e); after = sym (drop_all _ c.args.bytes.now (omega arith)); shorter = λ some. some }
