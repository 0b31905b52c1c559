-- The bound on a line's bytes, as the program tests it. Rests on nothing.
use Rattle.std.specs.Prelude.{ℕ, cond, List, length, Ok, Err, Result, nat_lt}
use Rattle.reading.specs.declared.fault.TextFault.{TextFault}
use Rattle.reading.specs.declared.fault.TextFault.TheVariants.{LineTooLong}

-- a line of more than 512 bytes is too long
abbrev pub fitting : List ℕ → Result (Unit {0}) TextFault
fitting bs = cond (nat_lt 512 (length bs)) (Err LineTooLong) (Ok tt)
