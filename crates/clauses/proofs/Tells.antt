-- A clause is false exactly when no assignment with these first values meets it. Rests on specs/Meaning and specs/Falsity.
use Rattle.std.proofs.Common.{◌≡◌, ℕ, ◌+◌, ◌*◌, ◌/◌, ◌%◌, ◌≤◌, Bool, true, false, cond, eqb, List, length, get_or, Some, None, Option, refl, ap, ◌∙◌, inl, inr, ⊎_elim, arith}
use Rattle.std.proofs.lemmas.Bool.{and_parts, and_cases}
use Rattle.std.proofs.lemmas.Bool.Decides.{nat_tests}
use Rattle.clauses.specs.Meaning.{Assignment, code_of, Holds, Meets, assigned, Extends}
use Rattle.clauses.specs.Falsity.{false_code, false_clause, first_false_row}
use Rattle.clauses.specs.Statements.{OpenClause, Told, ToldOfAll}
use Rattle.clauses.proofs.Firsts.{Least, first_least}

-- a false code holds under no assignment with these first values
false_fails : (top : ℕ) (values : List Bool) (code : ℕ) (α : Assignment) → Extends values α → false_code top values code ≡ true → Holds top α code → ⊥
unfolding false_code
false_fails top values code α ext f (v, low, high, is) =
    let half : code / 2 ≡ v = grind (arith, nat_tests) in
    let h = ext v low in
    grind (arith, nat_tests)

-- the first values, and for one variable the value that a code asks for
abbrev chosen : List Bool → ℕ → Assignment
chosen values code v = cond (eqb v (code / 2)) (eqb (code % 2) 0) (assigned values v)

chosen_extends : (top : ℕ) (values : List Bool) (code : ℕ) → false_code top values code ≡ false → Extends values (chosen values code)
unfolding false_code
chosen_extends top values code f v low high = grind (arith, nat_tests)

chosen_holds : (top : ℕ) (values : List Bool) (code : ℕ) → false_code top values code ≡ false → Holds top (chosen values code) code
unfolding false_code
chosen_holds top values code f =
    let low : 1 ≤ code / 2 = grind (arith, nat_tests) in
    let high : code / 2 ≤ top = grind (arith, nat_tests) in
    (code / 2, low, high, grind (arith, nat_tests))

module _ (top : ℕ) (values : List Bool) (codes : List ℕ) where
  pub false_unmet : (row : ℕ) (α : Assignment) → false_clause top values codes row ≡ true → Extends values α → Meets top codes α row → ⊥
  false_unmet row α f ext m =
      let p = and_parts (false_code top values (get_or codes (3 * row) 0)) _ f in
      let q = and_parts (false_code top values (get_or codes (3 * row + 1) 0)) _ p.1 in
      ⊎_elim (false_fails top values (get_or codes (3 * row) 0) α ext p.0)
      (⊎_elim (false_fails top values (get_or codes (3 * row + 1) 0) α ext q.0) (false_fails top values (get_or codes (3 * row + 2) 0) α ext q.1))
      m

  -- one code that is not false will do
  open_at : (row code : ℕ) → ((α : Assignment) → Holds top α code → Meets top codes α row) → false_code top values code ≡ false → OpenClause top values codes row
  open_at row code meets f = (chosen values code, chosen_extends top values code f, meets (chosen values code) (chosen_holds top values code f))

  not_false_open : (row : ℕ) → false_clause top values codes row ≡ false → OpenClause top values codes row
  not_false_open row f =
      ⊎_elim (open_at row (get_or codes (3 * row) 0) (λ α h. inl h))
      (λ g. ⊎_elim (open_at row (get_or codes (3 * row + 1) 0) (λ α h. inr (inl h))) (open_at row (get_or codes (3 * row + 2) 0) (λ α h. inr (inr h))) (and_cases _ _ g))
      (and_cases _ _ f)

  told_by : (o : Option ℕ) → Least (false_clause top values codes) (length codes / 3) o → Told top values codes o
  told_by (Some row) (low, f, before) = (omega arith, λ α. false_unmet row α f, λ i l. not_false_open i (before i l))
  told_by None none = λ i r. not_false_open i (none i (omega arith))

  pub told_as : (o : Option ℕ) → o ≡ first_false_row top values codes → Told top values codes o
  unfolding first_false_row
  told_as o e = rw e (told_by _ (first_least (false_clause top values codes) (length codes / 3)))

  -- where every variable has a value, the values alone decide
  same_holds : top ≤ length values → (α : Assignment) (code : ℕ) → Extends values α → Holds top α code → Holds top (assigned values) code
  same_holds all α code ext (v, low, high, is) = (v, low, high, is ∙ ap (code_of v) (ext v low (omega arith)))

  met_by_all : top ≤ length values → (row : ℕ) → OpenClause top values codes row → Meets top codes (assigned values) row
  met_by_all all row (α, ext, inl h) = inl (same_holds all α _ ext h)
  met_by_all all row (α, ext, inr (inl h)) = inr (inl (same_holds all α _ ext h))
  met_by_all all row (α, ext, inr (inr h)) = inr (inr (same_holds all α _ ext h))

  told_all_by : top ≤ length values → (o : Option ℕ) → Told top values codes o → ToldOfAll top values codes o
  told_all_by all (Some row) (low, no_one, before) = (low, no_one (assigned values) (λ v _ _. refl), λ i l. met_by_all all i (before i l))
  told_all_by all None none = λ i r. met_by_all all i (none i r)

  pub told_all_as : (o : Option ℕ) → o ≡ first_false_row top values codes → top ≤ length values → ToldOfAll top values codes o
  told_all_as o e all = told_all_by all o (told_as o e)
