-- A mark that is set and then put back.
use Rattle.std.proofs.Common.{◌≡◌, ℕ, zero, suc, ◌≤◌, Bool, true, false, cond, leb, List, [], ◌∷◌, map, length, take, Some, sym, refl, ap, ◌∙◌, ap₂, arith}
use mathlib.Core.Bool.{Bool-set}
use mathlib.Core.HLevel.{is_prop→PathP}
use native.Mathlib.Bridge.{le_prop}
use Rattle.std.specs.List.{slice_get}
use Rattle.std.specs.Option.{option_map}
use Rattle.formula.specs.declared.bounded.Bounded.{Bounded}
use Rattle.rules.specs.declared.rule.Rule.{Rule}
use Rattle.rules.specs.declared.tables.Tables.{Tables}
use Rattle.rules.specs.Asking.{mark_at}
use Rattle.rules.specs.Entered.{entry_of, entries_in}
use Rattle.rules.specs.Entries.{Entry, all_among}
use Rattle.rules.specs.Items.{item, altered_item}
use Rattle.rules.specs.LotNames.{lots_in}
use Rattle.rules.specs.Marks.{with_mark, row_marked}
use Rattle.rules.specs.StrikingLaws.{PutBack}
use Rattle.rules.proofs.Altered.{altered_back}

-- lists in place with equal fields are equal, and so are tables, whatever shows their invariant
same_lists : {T : Type 0} {N : ℕ} (a b : Bounded T N) → a.items ≡ b.items → a.count ≡ b.count → a ≡ b
same_lists {N = N} a b p q = λ i. record { items = p i; count = q i; few = is_prop→PathP (λ j. q j ≤ N) (λ j. le_prop) a.few b.few i }

same_tables : (a b : Tables) → a.lots ≡ b.lots → a.rules ≡ b.rules → a ≡ b
same_tables a b p q = λ i. record {
  lots = p i;
  rules = q i;
  over = is_prop→PathP (λ j. all_among (length (lots_in (p j))) (entries_in (q j)) ≡ true) (λ j. Bool-set (all_among (length (lots_in (p j))) (entries_in (q j))) true) a.over b.over i;
}

-- the rule that was given, in its place
nth_row : (g i : ℕ) (rs : List Rule) (y : Bool) → option_map (λ (e : Entry). e.force) (slice_get (map entry_of (take g rs)) i) ≡ Some y → (r : Rule) × (slice_get rs i ≡ Some r) × (r.in_force ≡ y)
nth_row zero i rs y e = absurd (let z : ◌≡◌ {A = ℕ} 0 1 = cc in omega arith)
nth_row (suc g) i [] y e = absurd (let z : ◌≡◌ {A = ℕ} 0 1 = cc in omega arith)
nth_row (suc g) zero (r ∷ rs) y e = (r, refl, (cc))
nth_row (suc g) (suc i) (r ∷ rs) y e = nth_row g i rs y e

row_of : (n : ℕ) (t : Tables) (y : Bool) → mark_at n (entries_in t.rules) ≡ Some y → (r : Rule) × (item n t.rules.items ≡ Some r) × (r.in_force ≡ y)
row_of zero t y e = absurd (let z : ◌≡◌ {A = ℕ} 0 1 = cc in omega arith)
row_of (suc i) t y e = nth_row t.rules.count i t.rules.items y e

rows_back : (rs : List Rule) (r : Rule) (g n : ℕ) (b : Bool) → item n rs ≡ Some r → row_marked g n r.in_force (row_marked g n b rs) ≡ rs
rows_back rs r g n b e = go (leb n g)
  where
    go : (t : Bool) → cond t (altered_item (with_mark r.in_force) n (cond t (altered_item (with_mark b) n rs) rs)) (cond t (altered_item (with_mark b) n rs) rs) ≡ rs
    go true = altered_back (with_mark b) (with_mark r.in_force) r refl rs n e
    go false = refl

pub put_back : PutBack
put_back a b c n x y e f g =
    let p = row_of n a y e in
    let items = a.rules.items in
    let back : c.rules.items ≡ a.rules.items =
    g.rows ∙ ap₂ (λ (k : ℕ) (rs : List Rule). row_marked k n y rs) f.given f.rows
    ∙ ap (λ (m : Bool). row_marked a.rules.count n m (row_marked a.rules.count n x items)) (sym p.2)
    ∙ rows_back items p.0 a.rules.count n x p.1 in
    same_tables c a (g.lots ∙ f.lots) (same_lists c.rules a.rules back (g.given ∙ f.given))
