-- Names that are lots stay lots, with their numbers, while names are added.
use Rattle.std.proofs.Common.{◌≡◌, ℕ, zero, suc, ◌<◌, ◌≤◌, Bool, true, false, cond, ltb, ◌⊎◌, List, [], ◌∷◌, ◌++◌, length, get_or, Ok, Err, Result, sym, refl, ap, ◌∙◌, subst, inl, inr, ⊎_elim, append_assoc, append-nil, arith, length-append}
use Rattle.std.proofs.lemmas.Bool.{leb-true, leb-false, ltb-true}
use Rattle.grammar.specs.declared.name.Name.{Name}
use Rattle.grammar.specs.declared.name.Named.{Named}
use Rattle.grammar.specs.Names.{nobody}
use Rattle.rules.specs.declared.fault.TakeFault.{TakeFault}
use Rattle.rules.specs.declared.fault.TakeFault.TheVariants.{LotsFull}
use Rattle.rules.specs.Adding.{lot_added, lots_added}
use Rattle.rules.specs.Numbers.{lot_of, is_lot}
use Rattle.rules.specs.Outcomes.{and_then}
use Rattle.rules.proofs.LotNumbers.{Known, known_more, lot_last}

-- how one name is added: it is a lot, or it becomes one
added_how : (ls ms : List Name) (x : Named) → lot_added ls x ≡ Ok ms
    → (Known x.name ls × (ms ≡ ls)) ⊎ ((length ls < lot_of x.name ls) × (length ls < 24) × (ms ≡ ls ++ x.name ∷ []))
added_how ls ms x e = go (is_lot x.name ls) refl e
  where
    room : (b : Bool) → length ls < lot_of x.name ls → ltb (length ls) 24 ≡ b
        → ◌≡◌ {A = Result (List Name) TakeFault} (cond b (Ok (ls ++ x.name ∷ [])) (Err (LotsFull x.place))) (Ok ms)
        → (Known x.name ls × (ms ≡ ls)) ⊎ ((length ls < lot_of x.name ls) × (length ls < 24) × (ms ≡ ls ++ x.name ∷ []))
    room true h l s = inr (h, ltb-true (length ls) 24 l, (cc))
    room false h l s = absurd (let z : ◌≡◌ {A = ℕ} 0 1 = cc in omega arith)

    go : (b : Bool) → is_lot x.name ls ≡ b
        → ◌≡◌ {A = Result (List Name) TakeFault} (cond b (Ok ls) (cond (ltb (length ls) 24) (Ok (ls ++ x.name ∷ [])) (Err (LotsFull x.place)))) (Ok ms)
        → (Known x.name ls × (ms ≡ ls)) ⊎ ((length ls < lot_of x.name ls) × (length ls < 24) × (ms ≡ ls ++ x.name ∷ []))
    go true h s = inl (leb-true (lot_of x.name ls) (length ls) h, (cc))
    go false h s = room (ltb (length ls) 24) (leb-false (lot_of x.name ls) (length ls) h) refl s

-- What the new lots are: the old ones, and others behind them; and still at most 24.
pub record Grown (ls ms : List Name) : Type 0 where
  pub more : List Name
  pub is : ms ≡ ls ++ more
  pub few : length ls ≤ 24 → length ms ≤ 24

one_grown : (ls ms : List Name) (x : Named) → lot_added ls x ≡ Ok ms → Grown ls ms
one_grown ls ms x e =
    ⊎_elim
    (λ old. record { more = []; is = old.1 ∙ sym (append-nil ls); few = λ h. omega (arith, ap length old.1) })
    (λ new. record { more = x.name ∷ []; is = new.2; few = λ h. omega (arith, ap length new.2, length-append ls (x.name ∷ []), new.1) })
    (added_how ls ms x e)

one_known : (ls ms : List Name) (x : Named) → lot_added ls x ≡ Ok ms → Known x.name ms
one_known ls ms x e =
    ⊎_elim
    (λ old. subst (Known x.name) (sym old.1) old.0)
    (λ new. subst (Known x.name) (sym new.2) (omega (arith, lot_last x.name ls new.0, length-append ls (x.name ∷ []))))
    (added_how ls ms x e)

-- one name, and then the others
split : (ls ms : List Name) (x : Named) (xs : List Named) → lots_added ls (x ∷ xs) ≡ Ok ms → (ks : List Name) × (lot_added ls x ≡ Ok ks) × (lots_added ks xs ≡ Ok ms)
split ls ms x xs e = go (lot_added ls x) refl e
  where
    go : (r : Result (List Name) TakeFault) → lot_added ls x ≡ r → and_then r (λ ks. lots_added ks xs) ≡ Ok ms → (ks : List Name) × (lot_added ls x ≡ Ok ks) × (lots_added ks xs ≡ Ok ms)
    go (Ok ks) s h = (ks, s, h)
    go (Err f) s h = absurd (let z : ◌≡◌ {A = ℕ} 0 1 = cc in omega arith)

pub all_grown : (ls ms : List Name) (xs : List Named) → lots_added ls xs ≡ Ok ms → Grown ls ms
all_grown ls ms [] e = let s : ms ≡ ls = cc in record { more = []; is = s ∙ sym (append-nil ls); few = λ h. omega (arith, ap length s) }
all_grown ls ms (x ∷ xs) e =
    let p = split ls ms x xs e in
    let g = one_grown ls p.0 x p.1 in
    let h = all_grown p.0 ms xs p.2 in
    record {
      more = g.more ++ h.more;
      is = h.is ∙ ap (λ ks. ks ++ h.more) g.is ∙ append_assoc ls g.more h.more;
      few = λ l. h.few (g.few l);
    }

-- every name that was added is a lot
pub all_known : (ls ms : List Name) (xs : List Named) → lots_added ls xs ≡ Ok ms → (i : ℕ) → i < length xs → Known (get_or xs i nobody).name ms
all_known ls ms [] e i h = absurd (omega arith)
all_known ls ms (x ∷ xs) e zero h =
    let p = split ls ms x xs e in
    let g = all_grown p.0 ms xs p.2 in
    subst (Known x.name) (sym g.is) (known_more x.name p.0 g.more (one_known ls p.0 x p.1))
all_known ls ms (x ∷ xs) e (suc i) h = let p = split ls ms x xs e in all_known p.0 ms xs p.2 i (omega arith)
