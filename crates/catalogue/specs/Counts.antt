-- How the counts of a report go up. Rests on Answers of crate reading and Names of crate grammar.
use Rattle.std.specs.Prelude.{ℕ, ◌+◌, ◌-◌, ◌^◌, min, Bool, List, Ok, Err}
use Rattle.std.specs.List.{list_any}
use Rattle.grammar.specs.declared.name.Name.{Name}
use Rattle.grammar.specs.Names.{same}
use Rattle.reading.specs.Answers.{Answer}

-- one more, up to the largest number that is counted
abbrev pub more : ℕ → ℕ
more n = min (n + 1) (2 ^ 64 - 1)

-- the lines taken, and the lines refused
abbrev pub took : Answer → ℕ → ℕ
took (Ok x) n = more n
took (Err f) n = n

abbrev pub missed : Answer → ℕ → ℕ
missed (Ok x) n = n
missed (Err f) n = more n

-- whether a name stands in a list
abbrev pub has : List Name → Name → Bool
has ns n = list_any (λ x. same x.bytes n.bytes) ns
