use Rattle.std.proofs.Common.{◌≡◌, ℕ, Bool, length}
use Rattle.formula.specs.declared.node.Pair.{Pair}
use Rattle.formula.specs.Tests.{Computes}
use Rattle.formula.proofs.PairTruths.{Upto}
use Rattle.formula.proofs.formula.truth.leaf_truths.Given as goal

abbrev pub invariant-loop-i : goal.invariant-loop-i
invariant-loop-i g l = (length l.truths ≡ 32) × ((v : Pair ℕ → Bool) → Computes (goal.F-post g l.fn.is_true) v → Upto v l.nodes l.truths l.i)
