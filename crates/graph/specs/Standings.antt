-- What the program's standing lots hold, and which of them its records link (executable). Rests on Standing and Records.
use Rattle.std.specs.Prelude.{ℕ, Bool, List, length, take}
use Rattle.graph.specs.declared.link.Link.{Link}
use Rattle.graph.specs.declared.standing.Standing.{Standing}
use Rattle.graph.specs.Records.{flagged, is_linked}
use Rattle.graph.specs.Standing.{standing_in}

-- a flag for each lot, lot 1 first
abbrev pub flags_in : Standing → List Bool
flags_in s = take s.lots s.flags

-- the lots that stand, in rising order
abbrev pub standing_lots : Standing → List ℕ
standing_lots s = standing_in (flags_in s)

-- which pairs of the lots, standing or not, are linked, where the links stand by the places of the pairs
abbrev pub linked_in : Standing → List Link → ℕ → ℕ → Bool
linked_in s ls = flagged (length (flags_in s)) is_linked ls
