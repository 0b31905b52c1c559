-- What is proved of decoding, for any list of spellings, and of names as they are stored. Rests on Decoding, Scan and Names of crate grammar.
use Rattle.std.specs.Prelude.{◌≡◌, ℕ, ◌≤◌, ◌↔◌, List, length, drop}
use Rattle.grammar.specs.Names.{stored, Decoded}
use Rattle.reading.specs.Decoding.{Runs}
use Rattle.reading.specs.Scan.{decoded}

-- The rule for names and the decoding that is worked out are one: what a name's bytes spell, and what is left behind them.
abbrev pub DecodedExactly : Type 0
DecodedExactly =
    (sp : List (List ℕ)) (bs r n : List ℕ)
    → Runs sp bs r n ↔ (((decoded sp 0 bs).0 ≡ n) × ((decoded sp 0 bs).1 ≤ length bs) × (drop (decoded sp 0 bs).1 bs ≡ r))

-- Names are stored alike exactly when they are decoded alike.
abbrev pub StoredExactly : Type 0
StoredExactly = (n m : List ℕ) → Decoded n → Decoded m → (stored n ≡ stored m) ↔ (n ≡ m)
