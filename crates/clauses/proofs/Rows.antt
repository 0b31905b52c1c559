-- The codes of a row, one after another, are those of its clause. Rests on specs/Falsity.
use Rattle.std.proofs.Common.{◌≡◌, ℕ, ◌+◌, ◌*◌, ◌/◌, ◌<◌, Bool, List, ◌&&◌, length, get_or, take, drop, refl, arith}
use Rattle.std.specs.List.{list_all}
use Rattle.std.proofs.lemmas.List.{drop_more}
use Rattle.std.proofs.Math.Bool.{and-true}
use Rattle.clauses.specs.Falsity.{false_code, false_clause}

module _ (top : ℕ) (values : List Bool) where
  three_tested : (codes : List ℕ) (i : ℕ) → i + 2 < length codes
      → list_all (false_code top values) (take 3 (drop i codes))
      ≡ (false_code top values (get_or codes i 0) && (false_code top values (get_or codes (i + 1) 0) && false_code top values (get_or codes (i + 2) 0)))
  three_tested codes i l =
      let last = and-true (false_code top values (get_or codes (i + 2) 0)) in
      let two : i + 1 + 1 ≡ i + 2 = omega arith in
      rw (drop_more codes i 0 (omega arith)) (rw (drop_more codes (i + 1) 0 (omega arith)) (rw two (rw (drop_more codes (i + 2) 0 (omega arith)) (rw last refl))))

  pub row_tested : (codes : List ℕ) (row : ℕ) → row < length codes / 3 → list_all (false_code top values) (take 3 (drop (row * 3) codes)) ≡ false_clause top values codes row
  row_tested codes row l =
      let same : row * 3 ≡ 3 * row = omega arith in
      rw same (three_tested codes (3 * row) (omega arith))
