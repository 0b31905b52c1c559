-- Numbers that are written in base ten with spaces between are read back. Rests on specs/Decimals.
use Rattle.std.proofs.Common.{◌≡◌, ℕ, ◌+◌, ◌*◌, ◌/◌, ◌%◌, ◌<◌, ◌≤◌, List, [], ◌∷◌, ◌++◌, Some, None, Option, sym, ap, ◌∙◌, append_assoc, append-nil, arith}
use Rattle.std.specs.Fmt.{decimal}
use Rattle.std.specs.List.{AllByRecursion}
use Rattle.std.proofs.lemmas.Fmt.{decimal_by_steps}
use Rattle.std.proofs.lemmas.Bool.{and_from, le-leb, cond-true, cond-false, ne_eqb}
use Rattle.search_demo.specs.Reading.{most, begun, grown, read_on}
use Rattle.search_demo.specs.Decimals.{written, ReadBack}

-- a digit that goes on with a number
digit_read : (numbers : List ℕ) (number : Option ℕ) (d n : ℕ) (bs : List ℕ) → d < 10 → 10 * begun number + d ≡ n → n ≤ most
    → read_on numbers number ((48 + d) ∷ bs) ≡ read_on numbers (Some n) bs
unfolding read_on
digit_read numbers number d n bs small is low =
    let value : grown number (48 + d) ≡ n = omega arith in
    cond-false _ _ _ (ne_eqb (48 + d) 32 (λ e. omega arith))
    ∙ cond-true _ _ _ (and_from _ _ (and_from _ _ (le-leb 48 (48 + d) (omega arith)) (le-leb (48 + d) 57 (omega arith))) (le-leb (grown number (48 + d)) most (omega arith)))
    ∙ ap (λ k. read_on numbers (Some k) bs) value

-- a number in base ten, from its first digit on
abbrev IsRead : List ℕ → ℕ → List ℕ → Type 0
IsRead numbers n ds = (rest : List ℕ) → n ≤ most → read_on numbers None (ds ++ rest) ≡ read_on numbers (Some n) rest

number_read : (numbers : List ℕ) (n : ℕ) → n ≤ most → (rest : List ℕ) → read_on numbers None (decimal n ++ rest) ≡ read_on numbers (Some n) rest
number_read numbers n low rest =
    decimal_by_steps (IsRead numbers)
    (λ m small more l. digit_read numbers None m m more small (omega arith) l)
    (λ m ds _ front more l.
    ap (read_on numbers None) (append_assoc ds ((48 + m % 10) ∷ []) more)
    ∙ front ((48 + m % 10) ∷ more) (omega arith)
    ∙ digit_read numbers (Some (m / 10)) (m % 10) m more (omega arith) (omega arith) l)
    n (omega arith) rest low

-- a list of numbers, behind those that were read before
list_read : (numbers ns : List ℕ) → AllByRecursion (λ n. n ≤ most) ns → read_on numbers None (written ns) ≡ Some (numbers ++ ns)
unfolding read_on
list_read numbers [] low = ap Some (sym (append-nil numbers))
list_read numbers (n ∷ []) low = ap (read_on numbers None) (sym (append-nil (decimal n))) ∙ number_read numbers n low.0 []
list_read numbers (n ∷ m ∷ ms) low =
    number_read numbers n low.0 (32 ∷ written (m ∷ ms))
    ∙ list_read (numbers ++ n ∷ []) (m ∷ ms) low.1
    ∙ ap Some (append_assoc numbers (n ∷ []) (m ∷ ms))

pub read_back : ReadBack
read_back ns low = list_read [] ns low
