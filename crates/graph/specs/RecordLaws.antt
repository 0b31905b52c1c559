-- What the records say (statements). Rests on Records.
use Rattle.std.specs.Prelude.{◌≡◌, ℕ, ◌≤◌, Bool, true, List, length, drop, slice_index_or}
use Rattle.formula.specs.Tree.{Tree}
use Rattle.formula.specs.declared.node.Pair.{Pair}
use Rattle.graph.specs.declared.link.Link.{Link}
use Rattle.graph.specs.Filling.{Pick, links}
use Rattle.graph.specs.InForce.{of_lots}
use Rattle.graph.specs.Marks.{dashed, solid}
use Rattle.graph.specs.Numbering.{variable}
use Rattle.graph.specs.Pairs.{IsPair, place, count_of_pairs, OfPairs}
use Rattle.graph.specs.Records.{no_link, drawn, flagged, is_dashed, is_solid, is_idle_positive, is_idle_negative, is_linked}
use Rattle.graph.specs.Rounds.{marked}

-- A flag of a table of records is a test of pairs exactly when each pair's record has it where the test says so.
abbrev pub FlagsAreTests : Type 0
FlagsAreTests =
    (n : ℕ) (flag : Link → Bool) (ls : List Link) (e : ℕ → ℕ → Bool) → OfPairs n e
    → (((a b : ℕ) → IsPair n a b → flag (slice_index_or ls (place a b) no_link) ≡ e a b) → flagged n flag ls ≡ e)
    × (flagged n flag ls ≡ e → (a b : ℕ) → IsPair n a b → flag (slice_index_or ls (place a b) no_link) ≡ e a b)

-- A table ls that holds what is drawn, however long it is and whatever it held: it says of each pair whether it is dashed, solid, idle and linked at the end, and gives
-- its variable; with at most 24 lots no variable is above 276; and behind the pairs' records it holds what it held.
pub record Says (n : ℕ) (fs : List (Tree (Pair ℕ))) (pick : Pick) (old ls : List Link) : Type 0 where
  pub dashes : flagged n is_dashed ls ≡ dashed fs (marked n fs)
  pub solids : flagged n is_solid ls ≡ solid fs (marked n fs)
  pub positives : flagged n is_idle_positive ls ≡ (marked n fs).positive
  pub negatives : flagged n is_idle_negative ls ≡ (marked n fs).negative
  pub joins : flagged n is_linked ls ≡ links n fs pick
  pub variables : (a b : ℕ) → IsPair n a b → (slice_index_or ls (place a b) no_link).variable ≡ variable n (links n fs pick) a b
  pub small : n ≤ 24 → (a b : ℕ) → IsPair n a b → (slice_index_or ls (place a b) no_link).variable ≤ 276
  pub rest : drop (count_of_pairs n) ls ≡ drop (count_of_pairs n) old
  pub size : count_of_pairs n ≤ length old → length ls ≡ length old

-- So says what is drawn.
abbrev pub RecordsSay : Type 0
RecordsSay = (n : ℕ) (fs : List (Tree (Pair ℕ))) → of_lots n fs ≡ true → (pick : Pick) (old : List Link) → Says n fs pick old (drawn n fs pick old)
