-- Counter and walker seen as searchers: which assignments are open, and the reserve. Rests on Searching and States.
use Rattle.std.specs.Prelude.{◌≡◌, ℕ, zero, suc, ◌+◌, ◌-◌, ◌^◌, Bool, true, false, cond, ◌⊎◌, List, [], ◌∷◌, length}
use Rattle.clauses.specs.Meaning.{Assignment, assigned}
use Rattle.search.specs.Searching.{View}
use Rattle.search.specs.States.{State}
use Rattle.search.specs.declared.status.Status.{Status}
use Rattle.search.specs.declared.status.Status.TheVariants.{Working, Found, Refuted}

-- the assignment has these values of the variables from v on, or comes after all that have:
-- at the first variable where it differs, the value is false and the assignment true
unfoldable pub Ahead : ℕ → List Bool → Assignment → Type 0
Ahead v [] α = Unit {0}
Ahead v (b ∷ bs) α = ((α v ≡ b) × Ahead (suc v) bs α) ⊎ ((b ≡ false) × (α v ≡ true))

abbrev pub Open : Status → List Bool → Assignment → Type 0
Open Working values α = Ahead 1 values α
Open Found values α = Ahead 1 values α
Open Refuted values α = ⊥

-- the values as a number in binary, the first one its highest digit
unfoldable pub number : List Bool → ℕ
number [] = 0
number (b ∷ bs) = cond b (2 ^ length bs) 0 + number bs

-- the assignments still to be tested
abbrev pub counter_reserve : Status → ℕ → List Bool → ℕ
counter_reserve Working variables values = 2 ^ variables - number values
counter_reserve Found variables values = 0
counter_reserve Refuted variables values = 0

-- the nodes of a full tree with d levels below its root
unfoldable pub nodes : ℕ → ℕ
nodes d = 2 ^ (d + 1) - 1

-- the nodes of the tree over d variables that the walk has not left behind: those below the end of the path,
-- and a whole subtree wherever the path has a false
unfoldable pub ahead_nodes : ℕ → List Bool → ℕ
ahead_nodes d [] = nodes d
ahead_nodes zero (b ∷ bs) = ahead_nodes zero bs
ahead_nodes (suc d) (b ∷ bs) = ahead_nodes d bs + cond b 0 (nodes d)

abbrev pub walker_reserve : Status → ℕ → List Bool → ℕ
walker_reserve Working variables values = ahead_nodes variables values
walker_reserve Found variables values = 0
walker_reserve Refuted variables values = 0

abbrev pub seen_with : (Status → ℕ → List Bool → ℕ) → State → View
seen_with reserve s = record {
  sound = Unit {0};
  variables = s.variables;
  admits = Open s.status s.values;
  age = s.age;
  reserve = reserve s.status s.variables s.values;
  status = s.status;
  shown = assigned s.values;
}

abbrev pub counter_view : State → View
counter_view = seen_with counter_reserve

abbrev pub walker_view : State → View
walker_view = seen_with walker_reserve
