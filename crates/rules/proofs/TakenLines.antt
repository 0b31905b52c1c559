-- What taking a line comes to, by what is known of its rules and names.
use Rattle.std.proofs.Common.{◌≡◌, ℕ, ◌+◌, ◌<◌, ◌≤◌, Bool, true, List, [], ◌∷◌, ◌++◌, length, get_or, take, Ok, refl, ap, ◌∙◌, ap₂, arith, length-append}
use Rattle.std.proofs.lemmas.List.{take_at, length_push}
use Rattle.std.proofs.lemmas.Bool.{le-leb}
use Rattle.formula.specs.declared.bounded.Bounded.{Bounded}
use Rattle.formula.specs.declared.formula.Formula.{Formula}
use Rattle.formula.specs.declared.node.Pair.{Pair}
use Rattle.formula.specs.Formulas.{formula_tree}
use Rattle.formula.specs.Held.{held}
use Rattle.formula.specs.Tree.{Tree}
use Rattle.formula.specs.Within.{within}
use Rattle.grammar.specs.declared.name.Name.{Name}
use Rattle.grammar.specs.declared.name.Named.{Named}
use Rattle.grammar.specs.Names.{nobody}
use Rattle.grammar.specs.Readings.{Reading}
use Rattle.rules.specs.Adding.{lots_added}
use Rattle.rules.specs.declared.rule.Rule.{Rule}
use Rattle.rules.specs.Entered.{entries_in}
use Rattle.rules.specs.Entries.{Entry, Entries, all_among}
use Rattle.rules.specs.Numbers.{lot_of}
use Rattle.rules.specs.OverLots.{AreLots, tree_over_lots}
use Rattle.rules.specs.Taking.{with_rule}
use Rattle.rules.specs.TakingLaws.{Took}
use Rattle.rules.proofs.KnownLots.{all_grown, all_known}
use Rattle.rules.proofs.LotNumbers.{lot_item}
use Rattle.rules.proofs.AmongLots.{all_wider, all_push, over_among}
use Rattle.rules.proofs.MarkedRules.{entries_put, forces_push}

module _ (e : Entries) (l : Reading) where
  pub took : (ls : List Name) → length e.rules < 32 → length e.lots ≤ 24 → lots_added e.lots l.names ≡ Ok ls → Took e (with_rule e l ls) l
  took ls h few s =
      let g = all_grown e.lots ls l.names s in
      let known = all_known e.lots ls l.names s in
      let size : length (with_rule e l ls).rules ≡ length e.rules + 1 = length_push e.rules _ in
      record {
        older_lots = ap (take (length e.lots)) g.is ∙ take_at e.lots g.more (length e.lots) refl;
        older_rules = take_at e.rules _ (length e.rules) refl;
        named = λ i b. lot_item (get_or l.names i nobody).name ls (known i b);
        forces = forces_push e.rules (tree_over_lots ls l.names l.tree);
        few_lots = g.few few;
        few_rules = omega arith;
      }

-- the formula of a new rule
pub made_over : (r : Rule) (f g : Formula) (ms : List Name) (xs : List Named) (l : Reading) → r.formula ≡ f → formula_tree f ≡ tree_over_lots ms xs (formula_tree g)
    → xs ≡ l.names → formula_tree g ≡ l.tree → formula_tree r.formula ≡ tree_over_lots ms l.names l.tree
made_over r f g ms xs l is made names tree = ap formula_tree is ∙ made ∙ ap₂ (λ (ys : List Named) (t : Tree (Pair ℕ)). tree_over_lots ms ys t) names tree

-- every name of a line is a lot
pub are_lots : (ls ms : List Name) (xs : List Named) → lots_added ls xs ≡ Ok ms → AreLots ms xs
are_lots ls ms xs s i h = le-leb (lot_of (get_or xs i nobody).name ms) (length ms) (all_known ls ms xs s i h)

-- The list new has one more rule than the list rs: that of the line l, over the lots ms, to which its names were added.
module _ {N : ℕ} (rs new : Bounded Rule N) (r : Rule) (ls ms : List Name) (l : Reading) (put : held new ≡ held rs ++ r ∷ [])
    (tree_is : formula_tree r.formula ≡ tree_over_lots ms l.names l.tree) (mark_is : r.in_force ≡ true) where
  entries_are : entries_in new ≡ entries_in rs ++ record { tree = tree_over_lots ms l.names l.tree; force = true } ∷ []
  entries_are =
      entries_put rs new r put
      ∙ ap₂ (λ (t : Tree (Pair ℕ)) (b : Bool). entries_in rs ++ record { tree = t; force = b } ∷ []) tree_is mark_is

  pub rule_added : record { lots = ms; rules = entries_in new } ≡ with_rule (record { lots = ls; rules = entries_in rs }) l ms
  rule_added = ap (λ (es : List Entry). record { lots = ms; rules = es }) entries_are

  pub still_among : lots_added ls l.names ≡ Ok ms → within (length l.names) l.tree ≡ true → all_among (length ls) (entries_in rs) ≡ true
      → all_among (length ms) (entries_in new) ≡ true
  still_among s named over =
      let g = all_grown ls ms l.names s in
      let longer = ap length g.is ∙ length-append ls g.more in
      ap (all_among (length ms)) entries_are
      ∙ all_push (length ms) (entries_in rs) _ (all_wider (length ls) (length ms) (entries_in rs) (omega arith) over) (over_among ms l.names l.tree (all_known ls ms l.names s) named)
