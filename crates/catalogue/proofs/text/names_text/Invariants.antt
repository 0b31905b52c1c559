use Rattle.std.proofs.Common.{◌≡◌, map, take}
use Rattle.std.specs.Prelude.{string_bytes}
use Rattle.catalogue.specs.Texts.{shown_name}
use Rattle.catalogue.proofs.text.names_text.Given as goal

abbrev pub invariant-loop-named : goal.invariant-loop-named
invariant-loop-named l = map string_bytes l.names.items ≡ map shown_name (take l.named-index l.named-items)
