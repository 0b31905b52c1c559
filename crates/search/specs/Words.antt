-- The words shown for a status and for an answer. Rests on nothing.
use Rattle.std.specs.Prelude.{ℕ, List, codes}
use Rattle.search.specs.declared.status.Status.{Status}
use Rattle.search.specs.declared.status.Status.TheVariants.{Working, Found, Refuted}
use Rattle.search.specs.declared.outcome.Outcome.{Outcome}
use Rattle.search.specs.declared.outcome.Outcome.TheVariants as outcomes

abbrev pub status_word : Status → List ℕ
status_word Working = codes "working"
status_word Found = codes "found"
status_word Refuted = codes "none"

abbrev pub outcome_word : Outcome → List ℕ
outcome_word (outcomes.Found n) = codes "found"
outcome_word (outcomes.Refuted n) = codes "none"
outcome_word (outcomes.Spent n) = codes "spent"
