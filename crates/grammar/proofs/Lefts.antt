-- The two forms of the grammar say the same.
use Rattle.std.proofs.Common.{◌≡◌, List, [], ◌∷◌, ◌++◌, sym, refl, ap, ◌∙◌, subst, append_assoc, append-nil}
use Rattle.grammar.specs.declared.token.Token.{Token}
use Rattle.grammar.specs.declared.token.Token.TheVariants.{Open, Close, Name, With, Not, And, Or, Then}
use Rattle.grammar.specs.declared.level.Level.{Level}
use Rattle.grammar.specs.declared.level.Level.TheVariants.{Rule}
use Rattle.grammar.specs.Names.{Phrase}
use Rattle.grammar.specs.Grammar.{Is, pair_part, not_part, parens, one_part, and_conjunction, one_conjunction, or_disjunction, one_disjunction, then_rule}
use Rattle.grammar.specs.Reads.{Reads, pair_read, not_read, parens_read, part_read, and_read, conjunction_read, or_read, disjunction_read, then_read}

pub read : {l : Level} {p : List Token} {t : Phrase} → Is l p t → (r : List Token) → Reads l (p ++ r) r t
read pair_part r = pair_read
read (not_part x) r = not_read (read x r)
read (parens x) r = parens_read (rw append_assoc (read x (Close ∷ r)))
read (one_part x) r = part_read (read x r)
read (and_conjunction {p = p} {ys = ys} x y) r = and_read (rw append_assoc (read x (And p ∷ (ys ++ r)))) (read y r)
read (one_conjunction x) r = conjunction_read (read x r)
read (or_disjunction {p = p} {ys = ys} x y) r = or_read (rw append_assoc (read x (Or p ∷ (ys ++ r)))) (read y r)
read (one_disjunction x) r = disjunction_read (read x r)
read (then_rule {p = p} {ys = ys} x y) r = then_read (rw append_assoc (read x (Then p ∷ (ys ++ r)))) (read y r)

abbrev pub Taken : Level → List Token → List Token → Phrase → Type 0
Taken l ts r t = (p : List Token) × (ts ≡ p ++ r) × Is l p t

between : (k : Token) {ts m : List Token} (p q r : List Token) → ts ≡ p ++ k ∷ m → m ≡ q ++ r → ts ≡ (p ++ k ∷ q) ++ r
between k p q r e f = e ∙ ap (λ s. p ++ k ∷ s) f ∙ sym (append_assoc p (k ∷ q) r)

pub taken : {l : Level} {ts r : List Token} {t : Phrase} → Reads l ts r t → Taken l ts r t
taken (pair_read {p = p} {a = a} {b = b}) = (Name a ∷ With p ∷ Name b ∷ [], refl, pair_part)
taken (not_read {p = p} x) = let h = taken x in (Not p ∷ h.0, ap (λ s. Not p ∷ s) h.1, not_part h.2)
taken (parens_read {r = r} x) = let h = taken x in (Open ∷ (h.0 ++ Close ∷ []), ap (λ s. Open ∷ s) (between Close h.0 [] r h.1 refl), parens h.2)
taken (part_read x) = let h = taken x in (h.0, h.1, one_part h.2)
taken (and_read {p = p} {r = r} x y) = let h = taken x in let g = taken y in (h.0 ++ And p ∷ g.0, between (And p) h.0 g.0 r h.1 g.1, and_conjunction h.2 g.2)
taken (conjunction_read x) = let h = taken x in (h.0, h.1, one_conjunction h.2)
taken (or_read {p = p} {r = r} x y) = let h = taken x in let g = taken y in (h.0 ++ Or p ∷ g.0, between (Or p) h.0 g.0 r h.1 g.1, or_disjunction h.2 g.2)
taken (disjunction_read x) = let h = taken x in (h.0, h.1, one_disjunction h.2)
taken (then_read {p = p} {r = r} x y) = let h = taken x in let g = taken y in (h.0 ++ Then p ∷ g.0, between (Then p) h.0 g.0 r h.1 g.1, then_rule h.2 g.2)

pub read_all : {ts : List Token} {t : Phrase} → Is Rule ts t → Reads Rule ts [] t
read_all {ts} {t} x = subst (λ s. Reads Rule s [] t) (append-nil ts) (read x [])

pub taken_all : {ts : List Token} {t : Phrase} → Reads Rule ts [] t → Is Rule ts t
taken_all {ts} {t} x = let h = taken x in subst (λ s. Is Rule s t) (sym (h.1 ∙ append-nil h.0)) h.2
