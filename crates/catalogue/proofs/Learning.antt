-- Names learned one after another: which are known at the end, and that none stands twice. Rests on Same of crate grammar.
use Rattle.std.proofs.Common.{◌≡◌, ℕ, Bool, true, false, cond, not, ◌||◌, List, [], ◌∷◌, ◌++◌, map, Ok, Err, refl, sym, ap, ◌∙◌, subst}
use Rattle.std.proofs.lemmas.Bool.{and_from, and_parts, false≢true}
use Rattle.std.proofs.Math.Bool.{or-false, or_assoc}
use Rattle.std.proofs.lemmas.List.Folds.{list_any-append}
use Rattle.grammar.specs.declared.name.Name.{Name}
use Rattle.grammar.specs.declared.name.Named.{Named}
use Rattle.grammar.specs.Names.{same}
use Rattle.grammar.proofs.Same.{same_is, same_self}
use Rattle.reading.specs.Answers.{Answer}
use Rattle.catalogue.specs.Counts.{has}
use Rattle.catalogue.specs.Known.{learned, known, distinct, Learned}

-- a name behind a list
has_push : (ns : List Name) (x n : Name) → has (ns ++ x ∷ []) n ≡ (has ns n || same x.bytes n.bytes)
has_push ns x n = list_any-append (λ y. same y.bytes n.bytes) ns (x ∷ []) ∙ ap (λ u. has ns n || u) (or-false (same x.bytes n.bytes))

-- a name that is the same as one that stands there stands there
has_same : (ns : List Name) (x n : Name) → has ns x ≡ true → same x.bytes n.bytes ≡ true → has ns n ≡ true
has_same ns x n h e = subst (λ (bs : List ℕ). has ns (record { bytes = bs }) ≡ true) (same_is x.bytes n.bytes e) h

-- one name more: it is known, and so is what was known
has_kept : (ns : List Name) (x n : Name) → has (cond (has ns x) ns (ns ++ x ∷ [])) n ≡ (has ns n || same x.bytes n.bytes)
has_kept ns x n = go (has ns x) refl
  where
    known_before : (s : Bool) → has ns x ≡ true → same x.bytes n.bytes ≡ s → has ns n ≡ (has ns n || s)
    known_before true h e = let k = has_same ns x n h e in k ∙ sym (ap (λ u. u || true) k)
    known_before false h e = sym (or-false (has ns n))

    go : (t : Bool) → has ns x ≡ t → has (cond t ns (ns ++ x ∷ [])) n ≡ (has ns n || same x.bytes n.bytes)
    go true h = known_before (same x.bytes n.bytes) h refl
    go false h = has_push ns x n

-- the names known at the end
has_learned : (ns : List Name) (xs : List Named) (n : Name) → has (learned ns xs) n ≡ (has ns n || has (map (λ (y : Named). y.name) xs) n)
has_learned ns [] n = sym (or-false (has ns n))
has_learned ns (x ∷ xs) n =
    has_learned (cond (has ns x.name) ns (ns ++ x.name ∷ [])) xs n
    ∙ ap (λ u. u || has (map (λ (y : Named). y.name) xs) n) (has_kept ns x.name n)
    ∙ or_assoc (has ns n) (same x.name.bytes n.bytes) (has (map (λ (y : Named). y.name) xs) n)

-- a name that does not stand in a list, behind it
distinct_push : (ns : List Name) (x : Name) → distinct ns ≡ true → has ns x ≡ false → distinct (ns ++ x ∷ []) ≡ true
distinct_push [] x d h = refl
distinct_push (y ∷ ys) x d h =
    let (apart, rest) = and_parts (not (has ys y)) (distinct ys) d in
    let (other, absent) = parts (same y.bytes x.bytes) (has ys x) h in
    and_from (not (has (ys ++ x ∷ []) y)) (distinct (ys ++ x ∷ []))
    (ap not (has_push ys x y) ∙ still (has ys y) (same x.bytes y.bytes) apart (differs (same x.bytes y.bytes) other refl))
    (distinct_push ys x rest absent)
  where
    parts : (s t : Bool) → (s || t) ≡ false → (s ≡ false) × (t ≡ false)
    parts true t e = absurd (false≢true (sym e))
    parts false t e = (refl, e)

    differs : (s : Bool) → same y.bytes x.bytes ≡ false → same x.bytes y.bytes ≡ s → s ≡ false
    differs false o e = refl
    differs true o e = absurd (false≢true (sym o ∙ ap (λ (bs : List ℕ). same y.bytes bs) (same_is x.bytes y.bytes e) ∙ same_self y.bytes))

    still : (a s : Bool) → not a ≡ true → s ≡ false → not (a || s) ≡ true
    still true s p q = absurd (false≢true p)
    still false s p q = ap not q

-- names learned one after another stand once
distinct_learned : (ns : List Name) (xs : List Named) → distinct ns ≡ true → distinct (learned ns xs) ≡ true
distinct_learned ns [] d = d
distinct_learned ns (x ∷ xs) d = distinct_learned (cond (has ns x.name) ns (ns ++ x.name ∷ [])) xs (go (has ns x.name) refl)
  where
    go : (t : Bool) → has ns x.name ≡ t → distinct (cond t ns (ns ++ x.name ∷ [])) ≡ true
    go true h = d
    go false h = distinct_push ns x.name d h

pub learned_from : (a : Answer) (old : List Name) → Learned a old (known a old)
learned_from (Ok x) old = record { names = has_learned old x.names; once = distinct_learned old x.names }
learned_from (Err f) old = record { names = λ n. sym (or-false (has old n)); once = λ d. d }
