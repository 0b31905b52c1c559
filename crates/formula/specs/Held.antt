-- What a bounded list holds. Rests on nothing.
use Rattle.std.specs.Prelude.{◌≡◌, ℕ, List, take, slice_set}
use Rattle.formula.specs.declared.bounded.Bounded.{Bounded}

-- its items, in their order
abbrev pub held : {T : Type 0} {N : ℕ} → Bounded T N → List T
held b = take b.count b.items

-- one item changed, and nothing else: neither how many there are nor what stands behind them
abbrev pub Changed : {T : Type 0} {N : ℕ} → Bounded T N → Bounded T N → ℕ → T → Type 0
Changed old new at item = (held new ≡ slice_set (held old) at item) × (new.items ≡ slice_set old.items at item) × (new.count ≡ old.count)
