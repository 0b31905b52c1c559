-- What a program's tables hold, as plain data. Rests on Entered and LotNames.
use Rattle.rules.specs.declared.tables.Tables.{Tables}
use Rattle.rules.specs.Entered.{entries_in}
use Rattle.rules.specs.Entries.{Entries}
use Rattle.rules.specs.LotNames.{lots_in}

-- the lots and the rules
abbrev pub entered : Tables → Entries
entered t = record { lots = lots_in t.lots; rules = entries_in t.rules }
