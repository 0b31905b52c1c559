-- The records of the pairs, by their places (executable), and what a table of records says of two lots. Rests on Numbering and Filling.
use Rattle.std.specs.Prelude.{ℕ, Bool, false, cond, not, ◌&&◌, List, [], ◌∷◌, ◌++◌, drop, ◌==◌, nat_lt, slice_index_or}
use Rattle.formula.specs.Tree.{Tree}
use Rattle.formula.specs.declared.node.Pair.{Pair}
use Rattle.graph.specs.declared.link.Link.{Link}
use Rattle.graph.specs.Filling.{Pick, links}
use Rattle.graph.specs.Lots.{is_lot}
use Rattle.graph.specs.Marks.{Marks, dashed, solid}
use Rattle.graph.specs.Numbering.{number, after}
use Rattle.graph.specs.Pairs.{place, count_of_pairs, pairs}
use Rattle.graph.specs.Rounds.{marked}

-- what is read where a table has no record, which no promise depends on
abbrev pub no_link : Link
no_link = record { dashed = false; solid = false; idle_positive = false; idle_negative = false; linked = false; variable = 0 }

-- the record of a pair that has a variable
abbrev pub record_of : List (Tree (Pair ℕ)) → Marks → (ℕ → ℕ → Bool) → ℕ × ℕ → ℕ → Link
record_of fs m linked p v = record {
  dashed = dashed fs m p.0 p.1;
  solid = solid fs m p.0 p.1;
  idle_positive = m.positive p.0 p.1;
  idle_negative = m.negative p.0 p.1;
  linked = linked p.0 p.1;
  variable = v;
}

-- the records of a list of pairs, their variables from k on
abbrev pub records : ℕ → List (Tree (Pair ℕ)) → Marks → (ℕ → ℕ → Bool) → List (ℕ × ℕ) → List Link
records k fs m linked [] = []
records k fs m linked (p ∷ ps) = record_of fs m linked p (number k linked p) ∷ records (after k linked p) fs m linked ps

-- the records of all pairs of n lots at the end: marks, links and variables
abbrev pub table : ℕ → List (Tree (Pair ℕ)) → Pick → List Link
table n fs pick = records 1 fs (marked n fs) (links n fs pick) (pairs n)

-- what a lent table that held `old` holds then: the records of the pairs, and behind them what it held
abbrev pub drawn : ℕ → List (Tree (Pair ℕ)) → Pick → List Link → List Link
drawn n fs pick old = table n fs pick ++ drop (count_of_pairs n) old

-- the place of the pair of two different lots, in either order
abbrev pub place_of : ℕ → ℕ → ℕ
place_of a b = cond (nat_lt a b) (place a b) (place b a)

-- what a flag of the records says of two lots: false but for two different lots of n
abbrev pub flagged : ℕ → (Link → Bool) → List Link → ℕ → ℕ → Bool
flagged n flag ls a b = (is_lot n a && is_lot n b) && (not (a == b) && flag (slice_index_or ls (place_of a b) no_link))

-- the flags
abbrev pub is_dashed : Link → Bool
is_dashed l = l.dashed

abbrev pub is_solid : Link → Bool
is_solid l = l.solid

abbrev pub is_idle_positive : Link → Bool
is_idle_positive l = l.idle_positive

abbrev pub is_idle_negative : Link → Bool
is_idle_negative l = l.idle_negative

abbrev pub is_linked : Link → Bool
is_linked l = l.linked
