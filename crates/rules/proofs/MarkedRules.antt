-- Rules with one mark changed, and with one more rule behind them.
use Rattle.std.proofs.Common.{◌≡◌, ℕ, zero, suc, ◌-◌, ◌<◌, ◌≤◌, Bool, true, false, cond, ◌&&◌, leb, List, [], ◌∷◌, ◌++◌, map, length, get_or, set, take, None, refl, sym, ap, ◌∙◌, subst, arith}
use Rattle.std.proofs.lemmas.List.{get_or-take, length-map, length-take, map_push}
use Rattle.std.proofs.lemmas.Bool.{cond-true, le-leb, leb-true}
use Rattle.std.specs.List.{slice_get}
use Rattle.formula.specs.declared.bounded.Bounded.{Bounded}
use Rattle.formula.specs.declared.node.Pair.{Pair}
use Rattle.formula.specs.Held.{held}
use Rattle.formula.specs.Tree.{Tree}
use Rattle.rules.specs.declared.rule.Rule.{Rule}
use Rattle.rules.specs.Entered.{entry_of, entries_in}
use Rattle.rules.specs.Entries.{Entry, Entries, rules_in_force, all_among}
use Rattle.rules.specs.Items.{item, altered, altered_item}
use Rattle.rules.specs.Leaves.{among}
use Rattle.rules.specs.Marks.{with_mark, row_marked}
use Rattle.rules.specs.Striking.{marked, mark_set}
use Rattle.rules.specs.StrikingLaws.{Marked}
use Rattle.rules.proofs.Altered.{set_altered, map_altered, item_altered, item_other}

pub entries_length : {N : ℕ} (rs : Bounded Rule N) → length (entries_in rs) ≡ length (held rs)
entries_length rs = length-map (held rs) entry_of

-- a rule that was lent and got the mark
module _ {N : ℕ} (rs new : Bounded Rule N) (i : ℕ) (b : Bool) (r : Rule) (inside : i < length (held rs)) (lent : r ≡ with_mark b (get_or (held rs) i r)) where
  pub entries_marked : held new ≡ set (held rs) i r → entries_in new ≡ altered (marked b) i (entries_in rs)
  entries_marked e =
      ap (map entry_of) (e ∙ ap (set (held rs) i) lent ∙ set_altered (with_mark b) (held rs) i r)
      ∙ map_altered entry_of (with_mark b) (marked b) (λ r. refl) i (held rs)

  pub items_marked : new.items ≡ set rs.items i r → new.items ≡ altered (with_mark b) i rs.items
  items_marked e =
      e ∙ ap (set rs.items i) (lent ∙ ap (with_mark b) (get_or-take rs.count rs.items i r (omega (arith, length-take rs.count rs.items))))
      ∙ set_altered (with_mark b) rs.items i r

-- a mark is no number of a lot
pub among_marked : (n i : ℕ) (b : Bool) (es : List Entry) → all_among n (altered (marked b) i es) ≡ all_among n es
among_marked n i b [] = refl
among_marked n zero b (e ∷ es) = refl
among_marked n (suc i) b (e ∷ es) = ap (λ x. among n e.tree && x) (among_marked n i b es)

-- the rules in place, and those that were given
pub row_there : (g n : ℕ) (b : Bool) (rs : List Rule) → 1 ≤ n → n ≤ g → row_marked g n b rs ≡ altered (with_mark b) (n - 1) rs
row_there g n b rs l h = cond-true _ _ _ (le-leb n g h) ∙ ap (λ k. altered_item (with_mark b) k rs) (let z : n ≡ suc (n - 1) = omega arith in z)

same_both : {A : Type 0} (b : Bool) (x : A) → cond b x x ≡ x
same_both true x = refl
same_both false x = refl

none_in_place : (g j : ℕ) (b : Bool) (rs : List Rule) → j < g → slice_get (map entry_of (take g rs)) j ≡ None → altered (with_mark b) j rs ≡ rs
none_in_place zero j b rs l e = absurd (omega arith)
none_in_place (suc g) j b [] l e = refl
none_in_place (suc g) zero b (r ∷ rs) l e = absurd (let z : ◌≡◌ {A = ℕ} 0 1 = cc in omega arith)
none_in_place (suc g) (suc j) b (r ∷ rs) l e = ap (λ xs. r ∷ xs) (none_in_place g j b rs (omega arith) e)

pub row_none : (g n : ℕ) (b : Bool) (rs : List Rule) → item n (map entry_of (take g rs)) ≡ None → row_marked g n b rs ≡ rs
row_none g zero b rs e = same_both (leb 0 g) rs
row_none g (suc j) b rs e = go (leb (suc j) g) refl
  where
    go : (t : Bool) → leb (suc j) g ≡ t → cond t (altered (with_mark b) j rs) rs ≡ rs
    go true h = let l = leb-true (suc j) g h in none_in_place g j b rs (omega arith) e
    go false h = refl

pub entries_there : (n : ℕ) (b : Bool) (es : List Entry) → 1 ≤ n → altered_item (marked b) n es ≡ altered (marked b) (n - 1) es
entries_there n b es h = ap (λ k. altered_item (marked b) k es) (let z : n ≡ suc (n - 1) = omega arith in z)

-- one more rule
pub entries_put : {N : ℕ} (rs new : Bounded Rule N) (r : Rule) → held new ≡ held rs ++ r ∷ [] → entries_in new ≡ entries_in rs ++ entry_of r ∷ []
entries_put rs new r e = ap (map entry_of) e ∙ map_push entry_of (held rs) r

-- only one mark changes
pub one_marked : (n : ℕ) (b : Bool) (e new : Entries) → new ≡ mark_set n b e → Marked n b e new
one_marked n b e new s =
    subst (Marked n b e) (sym s)
    (record { lots = refl; this = λ x h. item_altered (marked b) e.rules n x h; others = λ k h. item_other (marked b) e.rules n k h })

-- one more rule in force
pub forces_push : (es : List Entry) (t : Tree (Pair ℕ)) → rules_in_force (es ++ record { tree = t; force = true } ∷ []) ≡ rules_in_force es ++ t ∷ []
forces_push [] t = refl
forces_push (e ∷ es) t = go e.force (forces_push es t)
  where
    go : (b : Bool) → rules_in_force (es ++ record { tree = t; force = true } ∷ []) ≡ rules_in_force es ++ t ∷ []
        → cond b (e.tree ∷ rules_in_force (es ++ record { tree = t; force = true } ∷ [])) (rules_in_force (es ++ record { tree = t; force = true } ∷ [])) ≡ cond b (e.tree ∷ rules_in_force es) (rules_in_force es) ++ t ∷ []
    go true h = ap (λ ts. e.tree ∷ ts) h
    go false h = h
