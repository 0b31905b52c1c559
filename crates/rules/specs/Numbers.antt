-- Lots as a list of stored names, and the number of a name among them. Rests on Names of crate grammar.
use Rattle.std.specs.Prelude.{ℕ, suc, Bool, true, cond, not as flip, ◌&&◌, List, [], ◌∷◌, length, Some, None, Option, nat_le}
use Rattle.std.specs.List.{position_or_len}
use Rattle.grammar.specs.declared.name.Name.{Name}
use Rattle.grammar.specs.Names.{same}

-- the one equality of names
abbrev pub is_name : Name → Name → Bool
is_name a b = same a.bytes b.bytes

-- no name, which is read past the end of a list
abbrev pub no_name : Name
no_name = record { bytes = [] }

-- the number of a name, from 1: the first lot that has it, or one past the last
abbrev pub lot_of : Name → List Name → ℕ
lot_of n ls = suc (position_or_len (λ m. is_name m n) ls)

-- whether a lot has the name
abbrev pub is_lot : Name → List Name → Bool
is_lot n ls = nat_le (lot_of n ls) (length ls)

-- its number, if a lot has the name
abbrev pub lot_found : Name → List Name → Option ℕ
lot_found n ls = cond (is_lot n ls) (Some (lot_of n ls)) None

-- no two lots have the same name
abbrev pub apart : List Name → Bool
apart [] = true
apart (n ∷ ns) = flip (is_lot n ns) && apart ns
