use Rattle.std.proofs.Common.{◌≡◌, map, take}
use Rattle.std.specs.Prelude.{string_bytes}
use Rattle.catalogue.specs.Texts.{shown_byte}
use Rattle.catalogue.proofs.text.readable.Given as goal

abbrev pub invariant-loop-b : goal.invariant-loop-b
invariant-loop-b l = string_bytes l.shown ≡ map shown_byte (take l.b-index l.bytes)
