use Rattle.std.proofs.Common.{◌≡◌, take}
use Rattle.std.specs.Prelude.{string_bytes}
use Rattle.std.specs.List.{flat_map}
use Rattle.catalogue.specs.Texts.{shown_letter}
use Rattle.catalogue.proofs.text.name_text.Given as goal

abbrev pub invariant-loop-b : goal.invariant-loop-b
invariant-loop-b l = string_bytes l.shown ≡ flat_map shown_letter (take l.b-index l.b-items)
