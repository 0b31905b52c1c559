-- What the grammar derives, the parser and the automaton follow.
use Rattle.std.proofs.Common.{◌≡◌, ℕ, suc, true, List, Some, sym, refl, ap, ◌∙◌}
use Rattle.grammar.specs.Laws.{OneTree}
use Rattle.grammar.specs.declared.token.Token.{Token}
use Rattle.grammar.specs.declared.level.Level.{Level}
use Rattle.grammar.specs.declared.level.Level.TheVariants.{Rule, Disjunction, Conjunction, Part}
use Rattle.grammar.specs.Names.{Phrase}
use Rattle.grammar.specs.Grammar.{Is}
use Rattle.grammar.specs.Reads.{Reads, pair_read, not_read, parens_read, part_read, and_read, conjunction_read, or_read, disjunction_read, then_read}
use Rattle.grammar.specs.Automaton as auto
use Rattle.grammar.specs.declared.state.State.TheVariants as stage
use Rattle.grammar.specs.Parser.{Stack, base, under_open, under_not, under_and, under_or, under_then, want, have, part_done, conjunction_done, disjunction_done, all_done, closing, or_next, then_next, feed_all, whole, finish, parse}
use Rattle.grammar.proofs.Lefts.{read_all}

-- nothing tighter than a conjunction, or than a disjunction, is unfinished
abbrev Joins : Stack → Type 0
Joins s = (t : Phrase) → part_done t s ≡ have t s

abbrev Chooses : Stack → Type 0
Chooses s = Joins s × ((t : Phrase) → conjunction_done t s ≡ (t, s))

abbrev Goes : Level → List Token → List Token → Phrase → Type 0
Goes Part ts r t = (s : Stack) → feed_all (want s) ts ≡ feed_all (part_done t s) r
Goes Conjunction ts r t = (s : Stack) → Joins s → feed_all (want s) ts ≡ feed_all (have t s) r
Goes Disjunction ts r t =
    (s : Stack) → Chooses s
    → (b : Phrase) × (u : Stack) × (feed_all (want s) ts ≡ feed_all (have b u) r) × (conjunction_done b u ≡ (t, s))
Goes Rule ts r t =
    (s : Stack) → Chooses s
    → (b : Phrase) × (u : Stack) × (feed_all (want s) ts ≡ feed_all (have b u) r) × (all_done (conjunction_done b u) ≡ disjunction_done t s)

pub goes : {l : Level} {ts r : List Token} {t : Phrase} → Reads l ts r t → Goes l ts r t
goes pair_read = λ s. refl
goes (not_read {p = p} x) = λ s. goes x (under_not p s)
goes (parens_read {r = r} x) = λ s.
    let g = goes x (under_open s) ((λ t. refl), (λ t. refl)) in
    g.2 ∙ ap (λ p. feed_all (closing p) r) g.3
goes (part_read {r = r} {t = t} x) = λ s j. goes x s ∙ ap (λ p. feed_all p r) (j t)
goes (and_read {p = p} {a = a} x y) = λ s j. goes x s j ∙ goes y (under_and p a s)
goes (conjunction_read {t = t} x) = λ s c. (t, s, goes x s c.0, c.1 t)
goes (or_read {p = p} {m = m} {a = a} {b = b} x y) = λ s c.
    let g = goes x s c in (
      b,
      under_or p a s,
      g.2 ∙ ap (λ q. feed_all (or_next p q) m) g.3 ∙ goes y (under_or p a s) (λ t. refl),
      refl,
    )
goes (disjunction_read x) = λ s c. let g = goes x s c in (g.0, g.1, g.2, ap all_done g.3)
goes (then_read {p = p} {m = m} {a = a} x y) = λ s c.
    let g = goes x s c in
    let h = goes y (under_then p a s) ((λ t. refl), (λ t. refl)) in
    (h.0, h.1, g.2 ∙ ap (λ q. feed_all (then_next p q) m) g.3 ∙ h.2, h.3)

pub parsed : {ts : List Token} {t : Phrase} → Is Rule ts t → parse ts ≡ Some t
parsed x =
    let g = goes (read_all x) base ((λ t. refl), (λ t. refl)) in
    ap finish g.2 ∙ ap whole g.3

pub some_same : {t u : Phrase} → Some t ≡ Some u → t ≡ u
some_same e = cc

pub one_tree : OneTree
one_tree ts t u x y = some_same (sym (parsed x) ∙ parsed y)

-- the automaton passes from wanting a part to having one, at the same depth
pub moves : {l : Level} {ts r : List Token} {t : Phrase} → Reads l ts r t → (d : ℕ) → auto.run (Some (stage.WantPart d)) ts ≡ auto.run (Some (stage.HavePart d)) r
moves pair_read d = refl
moves (not_read x) d = moves x d
moves (parens_read x) d = moves x (suc d)
moves (part_read x) d = moves x d
moves (and_read x y) d = moves x d ∙ moves y d
moves (conjunction_read x) d = moves x d
moves (or_read x y) d = moves x d ∙ moves y d
moves (disjunction_read x) d = moves x d
moves (then_read x y) d = moves x d ∙ moves y d

pub accepts : {ts : List Token} {t : Phrase} → Is Rule ts t → auto.accepted ts ≡ true
accepts x = ap auto.complete (moves (read_all x) 0)
