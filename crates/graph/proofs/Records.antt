-- What a table of records says of the pairs.
use Rattle.std.proofs.lemmas.Bool.Decides.{nat_tests}
use Rattle.std.proofs.Common.{◌≡◌, ℕ, zero, suc, ◌*◌, ◌<◌, ◌≤◌, Bool, true, false, not, ◌&&◌, eqb, List, [], ◌∷◌, length, get_or, drop, refl, ap, ◌∙◌, arith, length-append, length-drop}
use Rattle.std.proofs.lemmas.Bool.{and_right}
use Rattle.std.proofs.lemmas.List.{get_or_append_left, get_or_past, drop_at}
use Rattle.formula.specs.declared.node.Pair.{Pair}
use Rattle.formula.specs.Tree.{Tree}
use Rattle.graph.specs.declared.link.Link.{Link}
use Rattle.graph.specs.Filling.{Pick, start, links}
use Rattle.graph.specs.InForce.{of_lots}
use Rattle.graph.specs.Lots.{is_lot, lots}
use Rattle.graph.specs.Marks.{Marks, dashed, solid}
use Rattle.graph.specs.Numbering.{after, numbers, variable}
use Rattle.graph.specs.Pairs.{IsPair, place, count_of_pairs, pairs, OfPairs}
use Rattle.graph.specs.RecordLaws.{Says, RecordsSay}
use Rattle.graph.specs.Records.{no_link, record_of, records, table, drawn, place_of, flagged, is_dashed, is_solid, is_idle_positive, is_idle_negative, is_linked}
use Rattle.graph.specs.Rounds.{marked}
use Rattle.graph.proofs.Filling.{stages_pairs}
use Rattle.graph.proofs.Links.{start_pairs}
use Rattle.graph.proofs.LivePairs.{of_pairs}
use Rattle.graph.proofs.Marking.{pairs_marked}
use Rattle.graph.proofs.Members.{has_lots}
use Rattle.graph.proofs.Numbering.{pairs_are_numbered}
use Rattle.graph.proofs.Places.{places, count_mono}

-- the place of two lots, in either order
pub place_low : (a b : ℕ) → a < b → place_of a b ≡ place a b
place_low a b h = grind (arith, nat_tests)

pub place_high : (a b : ℕ) → b < a → place_of a b ≡ place b a
place_high a b h = grind (arith, nat_tests)

module _ (n : ℕ) (flag : Link → Bool) (ls : List Link) where
  abbrev read : ℕ → Bool
  read i = flag (get_or ls i no_link)

  -- at a pair it is the flag of its record
  pub flag_at : (a b : ℕ) → IsPair n a b → flagged n flag ls a b ≡ read (place a b)
  flag_at a b (p, q, r) = grind (arith, nat_tests)

-- a pair whose record lies behind the table has no flag that the empty record lacks
pub past_table : (n : ℕ) (flag : Link → Bool) (ls : List Link) (a b : ℕ) → flag no_link ≡ false → length ls ≤ place_of a b → flagged n flag ls a b ≡ false
past_table n flag ls a b e h = and_right (is_lot n a && is_lot n b) _ (and_right (not (eqb a b)) _ (ap flag (get_or_past ls (place_of a b) no_link h) ∙ e))

-- a flag of any table is a test of pairs
pub flagged_pairs : (n : ℕ) (flag : Link → Bool) (ls : List Link) → OfPairs n (flagged n flag ls)
flagged_pairs n flag ls = grind (arith, nat_tests)

-- records that have the flag where a test says so
pub flags_by : (n : ℕ) (flag : Link → Bool) (ls : List Link) (e : ℕ → ℕ → Bool) → OfPairs n e
    → ((a b : ℕ) → IsPair n a b → flag (get_or ls (place a b) no_link) ≡ e a b) → flagged n flag ls ≡ e
flags_by n flag ls e o h = grind (arith, nat_tests)

-- the records, place by place
records_at : (k : ℕ) (fs : List (Tree (Pair ℕ))) (m : Marks) (linked : ℕ → ℕ → Bool) (ps : List (ℕ × ℕ)) (i : ℕ) (d : ℕ × ℕ) (e : Link) → i < length ps
    → get_or (records k fs m linked ps) i e ≡ record_of fs m linked (get_or ps i d) (get_or (numbers k linked ps) i 0)
records_at k fs m linked [] i d e l = absurd (omega arith)
records_at k fs m linked (p ∷ ps) zero d e l = refl
records_at k fs m linked (p ∷ ps) (suc i) d e l = records_at (after k linked p) fs m linked ps i d e (omega arith)

records_length : (k : ℕ) (fs : List (Tree (Pair ℕ))) (m : Marks) (linked : ℕ → ℕ → Bool) (ps : List (ℕ × ℕ)) → length (records k fs m linked ps) ≡ length ps
records_length k fs m linked [] = refl
records_length k fs m linked (p ∷ ps) = ap suc (records_length (after k linked p) fs m linked ps)

module _ (n : ℕ) (fs : List (Tree (Pair ℕ))) (pick : Pick) (old : List Link) where
  abbrev m : Marks
  m = marked n fs

  abbrev linked : ℕ → ℕ → Bool
  linked = links n fs pick

  table_length : length (table n fs pick) ≡ count_of_pairs n
  table_length = records_length 1 fs m linked (pairs n) ∙ (places n).all

  pub drawn_at : (a b : ℕ) → IsPair n a b → get_or (drawn n fs pick old) (place a b) no_link ≡ record_of fs m linked (a, b) (variable n linked a b)
  drawn_at a b p =
      let l = (places n).below a b p in
      let s = (places n).all in
      let t = table_length in
      get_or_append_left (table n fs pick) (drop (count_of_pairs n) old) no_link (place a b) (omega arith)
      ∙ records_at 1 fs m linked (pairs n) (place a b) (0, 0) no_link (omega arith)
      ∙ ap (λ q. record_of fs m linked q (variable n linked a b)) ((places n).listed a b (0, 0) p)

  says : of_lots n fs ≡ true → Says n fs pick old (drawn n fs pick old)
  says g = record {
    dashes = flags_by n is_dashed (drawn n fs pick old) (dashed fs m) (of_pairs n fs g m true) (λ a b p. ap is_dashed (drawn_at a b p));
    solids = flags_by n is_solid (drawn n fs pick old) (solid fs m) (of_pairs n fs g m false) (λ a b p. ap is_solid (drawn_at a b p));
    positives = flags_by n is_idle_positive (drawn n fs pick old) m.positive (pairs_marked n fs g (n * (n * 2)) true) (λ a b p. ap is_idle_positive (drawn_at a b p));
    negatives = flags_by n is_idle_negative (drawn n fs pick old) m.negative (pairs_marked n fs g (n * (n * 2)) false) (λ a b p. ap is_idle_negative (drawn_at a b p));
    joins = flags_by n is_linked (drawn n fs pick old) linked (stages_pairs pick n n (lots n) (start n fs).linked (has_lots n) (start_pairs n fs g)) (λ a b p. ap is_linked (drawn_at a b p));
    variables = λ a b p. ap (λ l. l.variable) (drawn_at a b p);
    small = λ h a b p.
        let v = ap (λ l. l.variable) (drawn_at a b p) in
        let w = (pairs_are_numbered n linked).within a b p in
        let t = (pairs_are_numbered n linked).most in
        let c = count_mono n 24 h in
        omega arith;
    rest = drop_at (table n fs pick) (drop (count_of_pairs n) old) (count_of_pairs n) table_length;
    size = λ h. let e = length-append (table n fs pick) (drop (count_of_pairs n) old) in let f = length-drop (count_of_pairs n) old in let t = table_length in omega arith;
  }

pub records_say : RecordsSay
records_say n fs g pick old = says n fs pick old g
