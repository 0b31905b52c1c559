-- Names keep their numbers while more names are listed.
use Rattle.std.proofs.Common.{◌≡◌, ℕ, suc, ◌+◌, ◌<◌, ◌≤◌, Bool, true, false, cond, not, ltb, List, [], ◌∷◌, ◌++◌, length, get_or, Some, None, sym, refl, ap, ◌∙◌, subst, ap₂, ⊎_elim, add-zero, arith, length-append}
use Rattle.std.specs.List.{position}
use Rattle.std.proofs.lemmas.Bool.{cond-true, cond-false, eq-eqb, ne_eqb, ltb-true, ltb-false, cases_eq}
use Rattle.std.proofs.lemmas.List.{get_or_at, get_or_append_left}
use Rattle.std.proofs.lemmas.List.Folds.{prefix_len-append, position_or_len_push}
use Rattle.std.proofs.lemmas.List.Sums.{prefix_len-le-length}
use Rattle.std.proofs.ByRecursion.{All-push}
use Rattle.std.specs.List.{AllByRecursion}
use Rattle.formula.specs.Tree.{leaf, not as no, and, or, then}
use Rattle.formula.specs.Table.{top}
use Rattle.grammar.specs.declared.name.Name.{Name}
use Rattle.grammar.specs.declared.name.Named.{Named}
use Rattle.grammar.specs.Names.{is_named, find, enlist, listed, Phrase, names_of, nobody, EachOnce, numbered}
use Rattle.grammar.proofs.Same.{same_self}

-- the name stands in the list
abbrev pub Has : List Named → Name → Type 0
Has ns n = find n ns < length ns

pub find_most : (n : Name) (ns : List Named) → find n ns ≤ length ns
find_most n ns = prefix_len-le-length (λ x. not (is_named n x)) ns

pub find_none : (n : Name) (ns : List Named) → None ≡ position (is_named n) ns → find n ns ≡ length ns
find_none n ns e = go (ltb (find n ns) (length ns)) refl e
  where
    go : (t : Bool) → ltb (find n ns) (length ns) ≡ t → None ≡ cond t (Some (find n ns)) None → find n ns ≡ length ns
    go true f g = absurd (let z : ⊥ = cc in z)
    go false f g = omega (arith, find_most n ns, ltb-false _ _ f)

-- at most one name more
pub enlist_length : (ns : List Named) (x : Named) → length (enlist ns x) ≤ length ns + 1
enlist_length ns x = go (ltb (find x.name ns) (length ns))
  where
    go : (t : Bool) → length (cond t ns (ns ++ x ∷ [])) ≤ length ns + 1
    go true = omega arith
    go false = omega (arith, length-append ns (x ∷ []))

find_more : (n : Name) (ns more : List Named) → Has ns n → find n (ns ++ more) ≡ find n ns
find_more n ns more h = prefix_len-append (λ x. not (is_named n x)) ns more ∙ cond-false _ _ _ (ne_eqb _ _ (λ (e : find n ns ≡ length ns). let z : ⊥ = omega arith in z))

find_last : (ns : List Named) (x : Named) → find x.name ns ≡ length ns → find x.name (ns ++ x ∷ []) ≡ length ns
find_last ns x e =
    position_or_len_push (is_named x.name) ns x
    ∙ cond-true _ _ _ (eq-eqb _ _ e)
    ∙ ap (λ t. length ns + cond t 0 1) (same_self x.name.bytes) ∙ add-zero (length ns)

pub has_more : (n : Name) (ns more : List Named) → Has ns n → (find n (ns ++ more) ≡ find n ns) × Has (ns ++ more) n
has_more n ns more h = let e = find_more n ns more h in let l = length-append ns more in (e, omega arith)

-- a name that is listed has its number, and the others keep theirs
pub enlist_has : (ns : List Named) (x : Named) → Has (enlist ns x) x.name
enlist_has ns x = go (ltb (find x.name ns) (length ns)) refl
  where
    go : (t : Bool) → ltb (find x.name ns) (length ns) ≡ t → Has (cond t ns (ns ++ x ∷ [])) x.name
    go true e = ltb-true _ _ e
    go false e =
        let m = find_most x.name ns in
        let w : length ns ≤ find x.name ns = ltb-false _ _ e in
        let f = find_last ns x (omega arith) in
        let l = length-append ns (x ∷ []) in
        omega arith

pub enlist_find : (ns : List Named) (x : Named) → find x.name (enlist ns x) ≡ find x.name ns
enlist_find ns x = go (ltb (find x.name ns) (length ns)) refl
  where
    go : (t : Bool) → ltb (find x.name ns) (length ns) ≡ t → find x.name (cond t ns (ns ++ x ∷ [])) ≡ find x.name ns
    go true e = refl
    go false e =
        let m = find_most x.name ns in
        let w : length ns ≤ find x.name ns = ltb-false _ _ e in
        let z : find x.name ns ≡ length ns = omega arith in
        find_last ns x z ∙ sym z

pub enlist_keeps : (n : Name) (ns : List Named) (x : Named) → Has ns n → (find n (enlist ns x) ≡ find n ns) × Has (enlist ns x) n
enlist_keeps n ns x h = go (ltb (find x.name ns) (length ns))
  where
    go : (t : Bool) → (find n (cond t ns (ns ++ x ∷ [])) ≡ find n ns) × Has (cond t ns (ns ++ x ∷ [])) n
    go true = (refl, h)
    go false = has_more n ns (x ∷ []) h

pub listed_keeps : (n : Name) (ns xs : List Named) → Has ns n → (find n (listed ns xs) ≡ find n ns) × Has (listed ns xs) n
listed_keeps n ns [] h = (refl, h)
listed_keeps n ns (x ∷ xs) h =
    let g = enlist_keeps n ns x h in
    let k = listed_keeps n (enlist ns x) xs g.1 in
    (k.0 ∙ g.0, k.1)

pub listed_append : (ns xs ys : List Named) → listed ns (xs ++ ys) ≡ listed (listed ns xs) ys
listed_append ns [] ys = refl
listed_append ns (x ∷ xs) ys = listed_append (enlist ns x) xs ys

-- all names of a rule stand in the list
abbrev pub Holds : List Named → Phrase → Type 0
Holds ns (leaf p) = Has ns p.first.name × Has ns p.second.name
Holds ns (no p t) = Holds ns t
Holds ns (and p t u) = Holds ns t × Holds ns u
Holds ns (or p t u) = Holds ns t × Holds ns u
Holds ns (then p t u) = Holds ns t × Holds ns u

pub holds_keeps : (ns xs : List Named) (t : Phrase) → Holds ns t → (numbered (listed ns xs) t ≡ numbered ns t) × Holds (listed ns xs) t
holds_keeps ns xs (leaf p) h =
    let a = listed_keeps p.first.name ns xs h.0 in
    let b = listed_keeps p.second.name ns xs h.1 in (
      ap₂ (λ (i j : ℕ). leaf (record { place = p.place; first = i; second = j })) a.0 b.0,
      (a.1, b.1),
    )
holds_keeps ns xs (no p t) h = let k = holds_keeps ns xs t h in (ap (no p) k.0, k.1)
holds_keeps ns xs (and p t u) h = let k = holds_keeps ns xs t h.0 in let m = holds_keeps ns xs u h.1 in (ap₂ (and p) k.0 m.0, (k.1, m.1))
holds_keeps ns xs (or p t u) h = let k = holds_keeps ns xs t h.0 in let m = holds_keeps ns xs u h.1 in (ap₂ (or p) k.0 m.0, (k.1, m.1))
holds_keeps ns xs (then p t u) h = let k = holds_keeps ns xs t h.0 in let m = holds_keeps ns xs u h.1 in (ap₂ (then p) k.0 m.0, (k.1, m.1))

both_hold : (ns xs ys : List Named) (t u : Phrase) → Holds (listed ns xs) t → Holds (listed (listed ns xs) ys) u → Holds (listed ns (xs ++ ys)) t × Holds (listed ns (xs ++ ys)) u
both_hold ns xs ys t u h k =
    subst (λ z. Holds z t × Holds z u) (sym (listed_append ns xs ys)) ((holds_keeps (listed ns xs) ys t h).1, k)

pub listed_holds : (ns : List Named) (t : Phrase) → Holds (listed ns (names_of t)) t
listed_holds ns (leaf p) =
    ((enlist_keeps p.first.name (enlist ns p.first) p.second (enlist_has ns p.first)).1, enlist_has (enlist ns p.first) p.second)
listed_holds ns (no p t) = listed_holds ns t
listed_holds ns (and p t u) = both_hold ns (names_of t) (names_of u) t u (listed_holds ns t) (listed_holds (listed ns (names_of t)) u)
listed_holds ns (or p t u) = both_hold ns (names_of t) (names_of u) t u (listed_holds ns t) (listed_holds (listed ns (names_of t)) u)
listed_holds ns (then p t u) = both_hold ns (names_of t) (names_of u) t u (listed_holds ns t) (listed_holds (listed ns (names_of t)) u)

-- numbering keeps the shape
pub top_numbered : (ns : List Named) (k : ℕ) (t : Phrase) → top k (numbered ns t) ≡ top k t
top_numbered ns k (leaf p) = refl
top_numbered ns k (no p t) = ap suc (top_numbered ns k t)
top_numbered ns k (and p t u) = ap suc (ap (λ i. top (suc i) (numbered ns u)) (top_numbered ns k t) ∙ top_numbered ns (suc (top k t)) u)
top_numbered ns k (or p t u) = ap suc (ap (λ i. top (suc i) (numbered ns u)) (top_numbered ns k t) ∙ top_numbered ns (suc (top k t)) u)
top_numbered ns k (then p t u) = ap suc (ap (λ i. top (suc i) (numbered ns u)) (top_numbered ns k t) ∙ top_numbered ns (suc (top k t)) u)

-- a list in which each name stands once stays one
enlist_once : (ns : List Named) (x : Named) → EachOnce ns → EachOnce (enlist ns x)
enlist_once ns x h = go (ltb (find x.name ns) (length ns)) refl
  where
    go : (t : Bool) → ltb (find x.name ns) (length ns) ≡ t → EachOnce (cond t ns (ns ++ x ∷ []))
    go true e i l = h i l
    go false e i l =
        let m = find_most x.name ns in
        let w : length ns ≤ find x.name ns = ltb-false _ _ e in
        let z : find x.name ns ≡ length ns = omega arith in
        let k = length-append ns (x ∷ []) in
        ⊎_elim
        (λ here. ap (λ (y : Named). find y.name (ns ++ x ∷ [])) (ap (λ j. get_or (ns ++ x ∷ []) j nobody) here ∙ get_or_at ns x [] nobody (length ns) refl) ∙ find_last ns x z ∙ sym here)
        (λ other.
        let b : i < length ns = omega arith in
        let f : find (get_or ns i nobody).name ns ≡ i = h i b in
        ap (λ (y : Named). find y.name (ns ++ x ∷ [])) (get_or_append_left ns (x ∷ []) nobody i b) ∙ (has_more (get_or ns i nobody).name ns (x ∷ []) (omega arith)).0 ∙ f)
        (cases_eq i (length ns))

pub listed_once : (ns xs : List Named) → EachOnce ns → EachOnce (listed ns xs)
listed_once ns [] h = h
listed_once ns (x ∷ xs) h = listed_once (enlist ns x) xs (enlist_once ns x h)

-- what holds of all names holds of those listed
pub listed_all : (P : Named → Type 0) (ns xs : List Named) → AllByRecursion P ns → AllByRecursion P xs → AllByRecursion P (listed ns xs)
listed_all P ns [] h k = h
listed_all P ns (x ∷ xs) h k = listed_all P (enlist ns x) xs (go (ltb (find x.name ns) (length ns))) k.1
  where
    go : (t : Bool) → AllByRecursion P (cond t ns (ns ++ x ∷ []))
    go true = h
    go false = All-push P ns x h k.0
