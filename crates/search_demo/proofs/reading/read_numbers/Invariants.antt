use Rattle.std.proofs.Common.{◌≡◌, drop, vec_items}
use Rattle.search_demo.specs.Reading.{read_on, numbers_of}
use Rattle.search_demo.proofs.reading.read_numbers.Given as goal

abbrev pub invariant-loop-byte : goal.invariant-loop-byte
invariant-loop-byte l = read_on (vec_items l.numbers) l.number (drop l.byte-index l.line) ≡ numbers_of l.line
