-- What a call that may be refused answers and leaves. Rests on nothing.
use Rattle.std.specs.Prelude.{Ok, Err, Result}

-- that it was done, or why not
abbrev pub done : {A E : Type 0} → Result A E → Result (Unit {0}) E
done (Ok a) = Ok tt
done (Err f) = Err f

-- what there is after it: the new state, or after a refusal the old one
abbrev pub settled : {A E : Type 0} → A → Result A E → A
settled old (Ok new) = new
settled old (Err f) = old

-- one step after another, up to the first that is refused
abbrev pub and_then : {A B E : Type 0} → Result A E → (A → Result B E) → Result B E
and_then (Ok a) next = next a
and_then (Err f) next = Err f
