-- What the answer of a call that may be refused tells of its outcome.
use Rattle.std.proofs.Common.{◌≡◌, ℕ, Ok, Err, Result, sym, ap, arith}
use Rattle.rules.specs.Outcomes.{done, settled}

-- it was refused
pub refused_by : {A E : Type 0} (r : Result A E) (f : E) → Err f ≡ done r → r ≡ Err f
refused_by (Ok a) f e = absurd (let z : ◌≡◌ {A = ℕ} 0 1 = cc in omega arith)
refused_by (Err g) f e = cc

-- it was done, and the new state is this
pub done_with : {A E : Type 0} (r : Result A E) (old new : A) → Ok tt ≡ done r → new ≡ settled old r → r ≡ Ok new
done_with (Ok a) old new e s = ap Ok (sym s)
done_with (Err g) old new e s = absurd (let z : ◌≡◌ {A = ℕ} 0 1 = cc in omega arith)
