-- The names that a program's lots hold. Rests on Held of crate formula.
use Rattle.std.specs.Prelude.{List, Ok, Err, Result}
use Rattle.formula.specs.Held.{held}
use Rattle.grammar.specs.declared.name.Name.{Name}
use Rattle.rules.specs.declared.fault.TakeFault.{TakeFault}
use Rattle.rules.specs.declared.lots.Lots.{Lots}

-- in the order of their numbers
abbrev pub lots_in : Lots → List Name
lots_in l = held l.names

-- those of lots that may have been refused
abbrev pub lots_of : Result Lots TakeFault → Result (List Name) TakeFault
lots_of (Ok l) = Ok (lots_in l)
lots_of (Err f) = Err f
