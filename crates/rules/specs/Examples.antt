-- Worked examples of lots and rules, from the bytes of lines on, as one statement. Rests on Taking, Striking and Asking, and on Reading of crate reading.
use Rattle.std.specs.Prelude.{◌≡◌, ℕ, zero, suc, true, false, List, [], ◌∷◌, Some, None, Ok, Err, codes, Option, Result}
use Rattle.formula.specs.declared.node.Pair.{Pair}
use Rattle.formula.specs.Tree.{Tree, leaf, not}
use Rattle.grammar.specs.Names.{stored}
use Rattle.reading.specs.Answers.{Answer}
use Rattle.reading.specs.Reading.{reading}
use Rattle.rules.specs.declared.fault.TakeFault.{TakeFault}
use Rattle.rules.specs.declared.fault.TakeFault.TheVariants.{RulesFull, LotsFull}
use Rattle.rules.specs.declared.fault.StrikeFault.TheVariants.{NeverGiven, StruckBefore}
use Rattle.rules.specs.Asking.{keep_answer}
use Rattle.rules.specs.Entries.{Entries, no_entries, rules_in_force}
use Rattle.rules.specs.Outcomes.{done, settled}
use Rattle.rules.specs.Striking.{struck}
use Rattle.rules.specs.Taking.{taken, last_number}

-- the answer to a line as it is read; none where it is no rule
abbrev pub answered : Entries → Answer → Option (Result ℕ TakeFault)
answered e (Ok l) = Some (last_number (taken e l))
answered e (Err f) = None

-- what there is after it
abbrev pub after : Entries → Answer → Entries
after e (Ok l) = settled e (taken e l)
after e (Err f) = e

-- after lines of bytes, one after another
abbrev pub after_lines : Entries → List (List ℕ) → Entries
after_lines e [] = e
after_lines e (b ∷ bs) = after_lines (after e (reading b)) bs

-- the answer to one more line
abbrev pub AnswersTo : Entries → List ℕ → Result ℕ TakeFault → Type 0
AnswersTo e b r = answered e (reading b) ≡ Some r

-- a pair of lots whose `with` stands at a place
abbrev pub pair : ℕ → ℕ → ℕ → Tree (Pair ℕ)
pair p i j = leaf (record { place = p; first = i; second = j })

-- a line so many times
abbrev pub times : ℕ → List ℕ → List (List ℕ)
times zero b = []
times (suc n) b = b ∷ times n b

-- three rules over three lots, one of them spelt in two ways
abbrev pub three_rules : Entries
three_rules = after_lines no_entries (codes "ST-1 with S&amp;L-4" ∷ codes "S&L-4 with EN-2" ∷ codes "not ST-1 with EN-2" ∷ [])

-- the same with rule 2 struck
abbrev pub two_left : Entries
two_left = settled three_rules (struck three_rules 2)

-- twenty-four lots, A to X
abbrev pub full : Entries
full =
    after_lines no_entries
    (codes "A with B" ∷ codes "C with D" ∷ codes "E with F" ∷ codes "G with H" ∷ codes "I with J" ∷ codes "K with L"
    ∷ codes "M with N" ∷ codes "O with P" ∷ codes "Q with R" ∷ codes "S with T" ∷ codes "U with V" ∷ codes "W with X" ∷ [])

-- twenty-three lots, A to W
abbrev pub nearly_full : Entries
nearly_full =
    after_lines no_entries
    (codes "A with B" ∷ codes "C with D" ∷ codes "E with F" ∷ codes "G with H" ∷ codes "I with J" ∷ codes "K with L"
    ∷ codes "M with N" ∷ codes "O with P" ∷ codes "Q with R" ∷ codes "S with T" ∷ codes "U with V" ∷ codes "W with W" ∷ [])

-- thirty-two rules
abbrev pub many : Entries
many = after_lines no_entries (times 32 (codes "A with A"))

pub record Examples : Type 0 where
  -- lots by the order in which their names first stand, and rules over their numbers
  pub names : three_rules.lots ≡ stored (codes "ST-1") ∷ stored (codes "S&L-4") ∷ stored (codes "EN-2") ∷ []
  pub forces : rules_in_force three_rules.rules ≡ pair 5 1 2 ∷ pair 6 2 3 ∷ not 0 (pair 9 1 3) ∷ []
  -- a strike, a number that was never given, a rule that was struck before
  pub strike : done (struck three_rules 2) ≡ Ok tt
  pub left : rules_in_force two_left.rules ≡ pair 5 1 2 ∷ not 0 (pair 9 1 3) ∷ []
  pub zeroth : done (struck three_rules 0) ≡ Err (NeverGiven 3)
  pub fourth : done (struck two_left 4) ≡ Err (NeverGiven 3)
  pub twice : done (struck two_left 2) ≡ Err (StruckBefore 2)
  -- a 25th lot, with the place where its name first stands; known names are still taken, and a refused line adds none of its names
  pub first_name : AnswersTo full (codes "Z with Z") (Err (LotsFull 0))
  pub second_name : AnswersTo full (codes "A with Z") (Err (LotsFull 7))
  pub known_names : AnswersTo full (codes "X with A") (Ok 13)
  pub one_fits : AnswersTo nearly_full (codes "Y with Z") (Err (LotsFull 7))
  pub none_kept : after_lines nearly_full (times 1 (codes "Y with Z")) ≡ nearly_full
  -- a 33rd rule
  pub one_more : AnswersTo many (codes "A with A") (Err RulesFull)
  -- numberings
  pub kept : keep_answer three_rules 3 (1 ∷ 1 ∷ 2 ∷ []) ≡ Some true
  pub broken : keep_answer three_rules 2 (1 ∷ 1 ∷ 2 ∷ []) ≡ Some false
  pub too_few : keep_answer three_rules 1 (1 ∷ 1 ∷ []) ≡ None
  pub no_rule : keep_answer three_rules 4 (1 ∷ 1 ∷ 2 ∷ []) ≡ None
