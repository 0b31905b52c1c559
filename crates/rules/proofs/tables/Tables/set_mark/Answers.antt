use Rattle.std.proofs.Common.{◌≡◌, ◌-◌, ◌<◌, ◌≤◌, List, length, get_or, sym, refl, ap, ◌∙◌, arith, rules}
use Rattle.std.proofs.lemmas.List.{length-take}
use Rattle.formula.specs.Held.{held}
use Rattle.rules.specs.Entered.{entry_of, entries_in}
use Rattle.rules.specs.Entries.{Entry, Entries, all_among}
use Rattle.rules.specs.LotNames.{lots_in}
use Rattle.rules.specs.Marks.{with_mark}
use Rattle.rules.specs.Striking.{marked, mark_set}
use Rattle.rules.specs.Views.{entered}
use Rattle.rules.proofs.Altered.{altered_absent}
use Rattle.rules.proofs.MarkedRules.{entries_length, entries_marked, items_marked, among_marked, row_there, row_none, one_marked, entries_there}
use Rattle.rules.proofs.Numbered.{told_some, told_none}
use Rattle.rules.proofs.PutBack.{put_back}
use Rattle.rules.proofs.tables.Tables.set_mark.Goals as goal

pub invariant_of-self : goal.invariant_of-self
invariant_of-self c =
    let t = c.args.self.now in
    let i = c.args.number - 1 in
    let n = length (lots_in t.lots) in
    let x = c.change.ensures.0 in
    let given = told_some c.args.number (entries_in t.rules) entry_of c.rule.result c.rule.ensures (sym c.is_some.ensures ∙ c.if-is_some.true) in
    let inside : i < length (held t.rules) = omega (arith, given.0, given.1, entries_length t.rules) in
    let lent : x ≡ with_mark c.args.mark (get_or (held t.rules) i x) = search rules in
    record {
      over =
          ap (all_among n) (entries_marked t.rules c.change.new.self i c.args.mark x inside lent c.change.ensures.2.0)
          ∙ among_marked n i c.args.mark (entries_in t.rules)
          ∙ t.over;
    }

pub returns-then-is_some : goal.returns-then-is_some
returns-then-is_some c =
    let t = c.args.self.now in
    let n = c.args.number in
    let i = n - 1 in
    let b = c.args.mark in
    let x = c.change.ensures.0 in
    let given = told_some n (entries_in t.rules) entry_of c.rule.result c.rule.ensures (sym c.is_some.ensures ∙ c.if-is_some.true) in
    let inside : i < length (held t.rules) = omega (arith, given.0, given.1, entries_length t.rules) in
    let few : n ≤ t.rules.count = omega (arith, given.1, entries_length t.rules, length-take t.rules.count t.rules.items) in
    let lent : x ≡ with_mark b (get_or (held t.rules) i x) = search rules in
    let new : Entries = record { lots = lots_in t.lots; rules = entries_in c.change.new.self } in
    let e : new ≡ mark_set n b (entered t) = ap (λ (es : List Entry). record { lots = lots_in t.lots; rules = es })
    (entries_marked t.rules c.change.new.self i b x inside lent c.change.ensures.2.0 ∙ sym (entries_there n b (entries_in t.rules) given.0)) in
    record {
      after = e;
      only = one_marked n b (entered t) new e;
      back = put_back;
      fields = record {
        rows = items_marked t.rules c.change.new.self i b x inside lent c.change.ensures.2.1 ∙ sym (row_there t.rules.count n b t.rules.items given.0 few);
        lots = refl;
        given = c.change.ensures.2.2;
      };
    }

pub returns-else-is_some : goal.returns-else-is_some
returns-else-is_some c =
    let t = c.args.self.now in
    let n = c.args.number in
    let b = c.args.mark in
    let none = told_none n (entries_in t.rules) entry_of c.rule.result c.rule.ensures (sym c.is_some.ensures ∙ c.if-is_some.false) in
    let e : entered t ≡ mark_set n b (entered t) = ap (λ (es : List Entry). record { lots = lots_in t.lots; rules = es }) (sym (altered_absent (marked b) n (entries_in t.rules) none)) in
    record {
      after = e;
      only = one_marked n b (entered t) (entered t) e;
      back = put_back;
      fields = record { rows = sym (row_none t.rules.count n b t.rules.items none); lots = refl; given = refl };
    }
