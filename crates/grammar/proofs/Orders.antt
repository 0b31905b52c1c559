-- Words that rise in the line stand in the tree in their order.
use Rattle.std.proofs.Common.{◌≡◌, ℕ, suc, ◌<◌, ◌≤◌, true, ◌&&◌, ltb, leb, List, [], length, arith}
use Rattle.std.proofs.lemmas.Bool.{and_from, and_parts, le-leb, lt-ltb, ltb-true}
use Rattle.formula.specs.declared.node.Pair.{Pair}
use Rattle.formula.specs.Tree.{Tree, leaf, not, and, or, then, spans}
use Rattle.formula.specs.Table.{pair_place}
use Rattle.formula.specs.Within.{within}
use Rattle.grammar.specs.declared.name.Named.{Named}
use Rattle.grammar.specs.declared.token.Token.{Token}
use Rattle.grammar.specs.declared.level.Level.{Level}
use Rattle.grammar.specs.Names.{Phrase, numbered}
use Rattle.grammar.specs.Reads.{Reads, pair_read, not_read, parens_read, part_read, and_read, conjunction_read, or_read, disjunction_read, then_read}
use Rattle.grammar.specs.Words.{Rising}
use Rattle.grammar.proofs.Numbering.{Holds}

inside : (from p to : ℕ) → from ≤ p → p < to → (leb from p && ltb p to) ≡ true
inside from p to h l = and_from _ _ (le-leb from p h) (lt-ltb p to l)

later_sides : (from to far p : ℕ) (t u : Tree (Pair ℕ)) → to ≤ far
    → ((leb from p && ltb p to) && (spans pair_place from p t && spans pair_place (suc p) to u)) ≡ true
    → (spans pair_place (suc p) to u ≡ true → spans pair_place (suc p) far u ≡ true)
    → ((leb from p && ltb p far) && (spans pair_place from p t && spans pair_place (suc p) far u)) ≡ true
later_sides from to far p t u h e f =
    let i = (and_parts (leb from p && ltb p to) _ e).0 in
    let j = (and_parts (leb from p && ltb p to) _ e).1 in
    let l = ltb-true p to (and_parts (leb from p) (ltb p to) i).1 in
    and_from _ _ (and_from _ _ (and_parts (leb from p) (ltb p to) i).0 (lt-ltb p far (omega arith)))
    (and_from _ _ (and_parts (spans pair_place from p t) _ j).0 (f (and_parts (spans pair_place from p t) _ j).1))

-- the words of a part may end earlier
later : (from to far : ℕ) (t : Tree (Pair ℕ)) → to ≤ far → spans pair_place from to t ≡ true → spans pair_place from far t ≡ true
later from to far (leaf p) h e =
    let l = ltb-true (pair_place p) to (and_parts (leb from (pair_place p)) _ e).1 in
    and_from _ _ (and_parts _ (ltb (pair_place p) to) e).0 (lt-ltb (pair_place p) far (omega arith))
later from to far (not p t) h e =
    let l = ltb-true p to (and_parts (leb from p) (ltb p to) (and_parts (leb from p && ltb p to) _ e).0).1 in
    and_from _ _ (and_from _ _ (and_parts (leb from p) (ltb p to) (and_parts (leb from p && ltb p to) _ e).0).0 (lt-ltb p far (omega arith)))
    (later (suc p) to far t h (and_parts (leb from p && ltb p to) _ e).1)
later from to far (and p t u) h e = later_sides from to far p t u h e (later (suc p) to far u h)
later from to far (or p t u) h e = later_sides from to far p t u h e (later (suc p) to far u h)
later from to far (then p t u) h e = later_sides from to far p t u h e (later (suc p) to far u h)

-- where a phrase's words end, and that the rest rises on from there
pub record Ends (from to : ℕ) (r : List Token) (t : Tree (Pair ℕ)) : Type 0 where
  pub end : ℕ
  pub onward : from < end
  pub most : end ≤ to
  pub in_order : spans pair_place from end t ≡ true
  pub rest : Rising end to r

-- a word at p between its sides
pub between : {from to p : ℕ} {m r : List Token} {t u : Tree (Pair ℕ)} → (x : Ends from to m t) → x.end ≤ p → p < to → (y : Ends (suc p) to r u)
    → Ends from to r (and p t u)
between {from} {to} {p} {t = t} x h l y =
    let o = x.onward in
    let q = y.onward in
    record {
      end = y.end;
      onward = omega arith;
      most = y.most;
      in_order = and_from _ _ (inside from p y.end (omega arith) (omega arith)) (and_from _ _ (later from x.end p t h x.in_order) y.in_order);
      rest = y.rest;
    }

pub rising_ends : {l : Level} {ts r : List Token} {t : Phrase} (ns : List Named) → Reads l ts r t → (from to : ℕ) → Rising from to ts → Ends from to r (numbered ns t)
rising_ends ns (pair_read {p = p}) from to h =
    record { end = suc p; onward = omega (arith, h.0); most = omega (arith, h.1); in_order = inside from p (suc p) h.0 (omega arith); rest = h.2 }
rising_ends ns (not_read {p = p} x) from to h =
    let e = rising_ends ns x (suc p) to h.2 in
    let o = e.onward in
    record { end = e.end; onward = omega (arith, h.0); most = e.most; in_order = and_from _ _ (inside from p e.end h.0 (omega arith)) e.in_order; rest = e.rest }
rising_ends ns (parens_read x) from to h =
    let e = rising_ends ns x from to h in
    record { end = e.end; onward = e.onward; most = e.most; in_order = e.in_order; rest = e.rest }
rising_ends ns (part_read x) from to h = rising_ends ns x from to h
rising_ends ns (and_read {p = p} x y) from to h =
    let e = rising_ends ns x from to h in
    between e e.rest.0 e.rest.1 (rising_ends ns y (suc p) to e.rest.2)
rising_ends ns (conjunction_read x) from to h = rising_ends ns x from to h
rising_ends ns (or_read {p = p} x y) from to h =
    let e = rising_ends ns x from to h in
    let b = between e e.rest.0 e.rest.1 (rising_ends ns y (suc p) to e.rest.2) in
    record { end = b.end; onward = b.onward; most = b.most; in_order = b.in_order; rest = b.rest }
rising_ends ns (disjunction_read x) from to h = rising_ends ns x from to h
rising_ends ns (then_read {p = p} x y) from to h =
    let e = rising_ends ns x from to h in
    let b = between e e.rest.0 e.rest.1 (rising_ends ns y (suc p) to e.rest.2) in
    record { end = b.end; onward = b.onward; most = b.most; in_order = b.in_order; rest = b.rest }

pub all_in_order : {l : Level} {ts : List Token} {t : Phrase} (ns : List Named) → Reads l ts [] t → (to : ℕ) → Rising 0 to ts → spans pair_place 0 to (numbered ns t) ≡ true
all_in_order {t = t} ns x to h = let e = rising_ends ns x 0 to h in later 0 e.end to (numbered ns t) e.most e.in_order

-- names that stand in the list have numbers below its length
pub holds_within : (ns : List Named) (t : Phrase) → Holds ns t → within (length ns) (numbered ns t) ≡ true
holds_within ns (leaf p) h = and_from _ _ (lt-ltb _ _ h.0) (lt-ltb _ _ h.1)
holds_within ns (not p t) h = holds_within ns t h
holds_within ns (and p t u) h = and_from _ _ (holds_within ns t h.0) (holds_within ns u h.1)
holds_within ns (or p t u) h = and_from _ _ (holds_within ns t h.0) (holds_within ns u h.1)
holds_within ns (then p t u) h = and_from _ _ (holds_within ns t h.0) (holds_within ns u h.1)
