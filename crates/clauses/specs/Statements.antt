-- What the first false clause tells of assignments: the statements that contracts name. Rests on Meaning.
use Rattle.std.specs.Prelude.{ℕ, ◌<◌, Bool, List, Some, None, Option}
use Rattle.clauses.specs.Meaning.{Assignment, Read, Meets, MeetsAll, Extends, assigned}

-- some assignment with these first values meets the clause
abbrev pub OpenClause : ℕ → List Bool → List ℕ → ℕ → Type 0
OpenClause top values codes row = (α : Assignment) × Extends values α × Meets top codes α row

-- a row says: it is the first whose clause no assignment with these first values meets; none says that there is no such row
abbrev pub Told : ℕ → List Bool → List ℕ → Option ℕ → Type 0
Told top values codes (Some row) =
    Read codes row
    × ((α : Assignment) → Extends values α → Meets top codes α row → ⊥)
    × ((i : ℕ) → i < row → OpenClause top values codes i)
Told top values codes None = (i : ℕ) → Read codes i → OpenClause top values codes i

-- where every variable has a value: a row is the first that the assignment does not meet; none says that it meets them all
abbrev pub ToldOfAll : ℕ → List Bool → List ℕ → Option ℕ → Type 0
ToldOfAll top values codes (Some row) =
    Read codes row × (Meets top codes (assigned values) row → ⊥) × ((i : ℕ) → i < row → Meets top codes (assigned values) i)
ToldOfAll top values codes None = MeetsAll top codes (assigned values)
