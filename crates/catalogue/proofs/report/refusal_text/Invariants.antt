use Rattle.std.proofs.Common.{◌≡◌, ◌++◌, codes, replicate}
use Rattle.std.specs.Prelude.{string_bytes}
use Rattle.catalogue.specs.Replies.{refused_line}
use Rattle.catalogue.proofs.report.refusal_text.Given as goal

abbrev pub invariant-loop : goal.invariant-loop
invariant-loop l = string_bytes l.text ≡ refused_line l.line l.fn.fault ++ (codes "   " ++ replicate l.counter 32)
