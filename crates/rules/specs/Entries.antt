-- The tables of lots and rules as plain data. Rests on Tree and Leaves.
use Rattle.std.specs.Prelude.{ℕ, Bool, cond, List, [], ◌∷◌}
use Rattle.std.specs.List.{list_all}
use Rattle.formula.specs.declared.node.Pair.{Pair}
use Rattle.formula.specs.Tree.{Tree}
use Rattle.grammar.specs.declared.name.Name.{Name}
use Rattle.rules.specs.Leaves.{among}

-- a rule: its formula over the numbers of lots, and whether it is in force
pub record Entry : Type 0 where
  pub tree : Tree (Pair ℕ)
  pub force : Bool

-- the names of the lots, and all rules that were ever given, both by number from 1
pub record Entries : Type 0 where
  pub lots : List Name
  pub rules : List Entry

-- no lots and no rules
abbrev pub no_entries : Entries
no_entries = record { lots = []; rules = [] }

-- the formulas of the rules in force, in the order of the rules' numbers
abbrev pub rules_in_force : List Entry → List (Tree (Pair ℕ))
rules_in_force [] = []
rules_in_force (e ∷ es) = cond e.force (e.tree ∷ rules_in_force es) (rules_in_force es)

-- all numbers in the formulas of rules are numbers of n lots
abbrev pub all_among : ℕ → List Entry → Bool
all_among n es = list_all (λ (e : Entry). among n e.tree) es
