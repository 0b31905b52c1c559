-- What clauses ask of an assignment to variables 1 to `top`. Rests on nothing.
use Rattle.std.specs.Prelude.{◌≡◌, ℕ, ◌+◌, ◌-◌, ◌*◌, ◌≤◌, Bool, false, cond, ◌⊎◌, List, length, slice_index, slice_index_or}

-- the values of the variables, which count from 1
abbrev pub Assignment : Type 0
Assignment = ℕ → Bool

-- the code that says that variable v has this value: 2v for true, 2v + 1 for false
abbrev pub code_of : ℕ → Bool → ℕ
code_of v value = cond value (2 * v) (2 * v + 1)

-- a code holds where a variable from 1 to `top` has the value that it says; no other code ever holds
abbrev pub Holds : ℕ → Assignment → ℕ → Type 0
Holds top α code = (v : ℕ) × (1 ≤ v) × (v ≤ top) × (code ≡ code_of v (α v))

-- the clause in a row is read if all its three codes are there
abbrev pub Read : List ℕ → ℕ → Type 0
Read codes row = 3 * row + 3 ≤ length codes

-- a clause is met where one of its codes holds
abbrev pub Meets : ℕ → List ℕ → Assignment → ℕ → Type 0
Meets top codes α row =
    Holds top α (slice_index codes (3 * row)) ⊎ (Holds top α (slice_index codes (3 * row + 1)) ⊎ Holds top α (slice_index codes (3 * row + 2)))

abbrev pub MeetsAll : ℕ → List ℕ → Assignment → Type 0
MeetsAll top codes α = (row : ℕ) → Read codes row → Meets top codes α row

-- variable v has its value at index v - 1
abbrev pub assigned : List Bool → Assignment
assigned values v = slice_index_or values (v - 1) false

-- an assignment that has these values of the first variables
abbrev pub Extends : List Bool → Assignment → Type 0
Extends values α = (v : ℕ) → 1 ≤ v → v ≤ length values → α v ≡ assigned values v
