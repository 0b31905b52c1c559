-- Lots that the names of a line add. Rests on Numbers and Outcomes.
use Rattle.std.specs.Prelude.{cond, List, [], ◌∷◌, ◌++◌, length, Ok, Err, Result, nat_lt}
use Rattle.grammar.specs.declared.name.Name.{Name}
use Rattle.grammar.specs.declared.name.Named.{Named}
use Rattle.rules.specs.declared.fault.TakeFault.{TakeFault}
use Rattle.rules.specs.declared.fault.TakeFault.TheVariants.{LotsFull}
use Rattle.rules.specs.Numbers.{is_lot}
use Rattle.rules.specs.Outcomes.{and_then}

-- A name that no lot has becomes the next lot; there are at most 24, and a 25th is refused with the place where its name stands.
abbrev pub lot_added : List Name → Named → Result (List Name) TakeFault
lot_added ls x = cond (is_lot x.name ls) (Ok ls) (cond (nat_lt (length ls) 24) (Ok (ls ++ x.name ∷ [])) (Err (LotsFull x.place)))

-- names one after another, up to the first that is refused
abbrev pub lots_added : List Name → List Named → Result (List Name) TakeFault
lots_added ls [] = Ok ls
lots_added ls (x ∷ xs) = and_then (lot_added ls x) (λ ms. lots_added ms xs)
