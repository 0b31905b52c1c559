-- Worked examples, as one statement. Rests on Records and Pickers.
use Rattle.std.specs.Prelude.{◌≡◌, ℕ, true, false, List, [], ◌∷◌}
use Rattle.formula.specs.Tree.{Tree, leaf, not, or}
use Rattle.formula.specs.declared.node.Pair.{Pair}
use Rattle.graph.specs.declared.link.Link.{Link}
use Rattle.graph.specs.Filling.{order}
use Rattle.graph.specs.Marks.{idle}
use Rattle.graph.specs.Pairs.{place, pairs}
use Rattle.graph.specs.Pickers.{lowest_first, fewest_first}
use Rattle.graph.specs.Records.{table}
use Rattle.graph.specs.Rounds.{rounds}

-- `a with b`, its word at a place of the line
abbrev pub with_at : ℕ → ℕ → ℕ → Tree (Pair ℕ)
with_at w a b = leaf (record { place = w; first = a; second = b })

-- records with nothing, with one idle literal, and with a variable: of a dashed pair, of a solid one, of one that is only linked
abbrev pub bare : Link
bare = record { dashed = false; solid = false; idle_positive = false; idle_negative = false; linked = false; variable = 0 }

abbrev pub idle_with : Link
idle_with = record { dashed = false; solid = false; idle_positive = true; idle_negative = false; linked = false; variable = 0 }

abbrev pub idle_apart : Link
idle_apart = record { dashed = false; solid = false; idle_positive = false; idle_negative = true; linked = false; variable = 0 }

abbrev pub dashed_as : ℕ → Link
dashed_as v = record { dashed = true; solid = false; idle_positive = false; idle_negative = false; linked = true; variable = v }

abbrev pub solid_as : ℕ → Link
solid_as v = record { dashed = false; solid = true; idle_positive = false; idle_negative = false; linked = true; variable = v }

abbrev pub filled_as : ℕ → Link
filled_as v = record { dashed = false; solid = false; idle_positive = false; idle_negative = false; linked = true; variable = v }

-- `A with B or C with D`
abbrev pub joins : List (Tree (Pair ℕ))
joins = or 9 (with_at 2 1 2) (with_at 14 3 4) ∷ []

-- `not A with B or C with D`
abbrev pub parts : List (Tree (Pair ℕ))
parts = or 13 (not 0 (with_at 6 1 2)) (with_at 18 3 4) ∷ []

-- `A with B`, `not A with B or not A with C`
abbrev pub rounds_two : List (Tree (Pair ℕ))
rounds_two = with_at 2 1 2 ∷ or 13 (not 0 (with_at 6 1 2)) (not 16 (with_at 22 1 3)) ∷ []

-- `A with B`, `B with C`, `not A with C`
abbrev pub three_lots : List (Tree (Pair ℕ))
three_lots = with_at 2 1 2 ∷ with_at 2 2 3 ∷ not 0 (with_at 6 1 3) ∷ []

-- `A with B`, `B with C`, `C with D`, `not A with D`
abbrev pub square : List (Tree (Pair ℕ))
square = with_at 2 1 2 ∷ with_at 2 2 3 ∷ with_at 2 3 4 ∷ not 0 (with_at 6 1 4) ∷ []

-- `A with B`, `A with C`, `A with D`, `not B with C`
abbrev pub star : List (Tree (Pair ℕ))
star = with_at 2 1 2 ∷ with_at 2 1 3 ∷ with_at 2 1 4 ∷ not 0 (with_at 6 2 3) ∷ []

-- `A with A`, `not A with A`, `A with B or not A with B`
abbrev pub own : List (Tree (Pair ℕ))
own = with_at 2 1 1 ∷ not 0 (with_at 6 1 1) ∷ or 9 (with_at 2 1 2) (not 12 (with_at 18 1 2)) ∷ []

pub record Examples : Type 0 where
  -- the pairs of four lots, by place
  pub by_place : pairs 4 ≡ (1, 2) ∷ (1, 3) ∷ (2, 3) ∷ (1, 4) ∷ (2, 4) ∷ (3, 4) ∷ []
  pub last_place : place 23 24 ≡ 275
  -- one round marks both literals
  pub first_round : idle (rounds 1 4 joins) true 1 2 ∷ idle (rounds 1 4 joins) true 3 4 ∷ [] ≡ true ∷ true ∷ []
  pub joined : table 4 joins lowest_first ≡ idle_with ∷ bare ∷ bare ∷ bare ∷ bare ∷ idle_with ∷ []
  pub parted : table 4 parts lowest_first ≡ idle_apart ∷ bare ∷ bare ∷ bare ∷ bare ∷ idle_with ∷ []
  -- a round goes by the marks before it: the first marks A and C as apart, which decides the second formula, so only the second round marks A and B as together
  pub by_rounds : idle (rounds 1 3 rounds_two) false 1 3 ∷ idle (rounds 1 3 rounds_two) true 1 2 ∷ idle (rounds 2 3 rounds_two) true 1 2 ∷ [] ≡ true ∷ false ∷ true ∷ []
  pub two_rounds : table 3 rounds_two lowest_first ≡ idle_with ∷ idle_apart ∷ bare ∷ []
  -- all three pairs are linked, with variables by place
  pub triangle : table 3 three_lots lowest_first ≡ dashed_as 1 ∷ solid_as 2 ∷ dashed_as 3 ∷ []
  -- the pair (2, 4) is filled when lot 1 is taken out
  pub ring : table 4 square lowest_first ≡ dashed_as 1 ∷ bare ∷ dashed_as 2 ∷ solid_as 3 ∷ filled_as 4 ∷ dashed_as 5 ∷ []
  pub ring_order : order 4 square lowest_first ≡ 1 ∷ 2 ∷ 3 ∷ 4 ∷ []
  -- taking the middle of a star out first fills two pairs, taking the lot with one neighbour out first fills none
  pub star_lowest : table 4 star lowest_first ≡ dashed_as 1 ∷ dashed_as 2 ∷ solid_as 3 ∷ dashed_as 4 ∷ filled_as 5 ∷ filled_as 6 ∷ []
  pub star_fewest : table 4 star fewest_first ≡ dashed_as 1 ∷ dashed_as 2 ∷ solid_as 3 ∷ dashed_as 4 ∷ bare ∷ bare ∷ []
  pub star_order : order 4 star fewest_first ≡ 4 ∷ 1 ∷ 2 ∷ 3 ∷ []
  -- a lot with itself is decided, and a pair that is both dashed and solid keeps both
  pub itself : table 2 own lowest_first
      ≡ record { dashed = true; solid = true; idle_positive = false; idle_negative = false; linked = true; variable = 1 } ∷ []
