-- What is known of every line that is taken.
use Rattle.std.proofs.Common.{◌≡◌, ℕ, zero, suc, ◌<◌, ◌≤◌, Bool, true, false, List, [], ◌∷◌, length, Ok, Err, sym, refl, ap, ◌∙◌, subst, ⊎_elim, arith}
use Rattle.std.proofs.lemmas.Bool.{false≢true, cases_lt}
use Rattle.std.proofs.lemmas.List.{length-take}
use Rattle.std.specs.List.{AllByRecursion}
use Rattle.formula.specs.Formulas.{nodes_of, formula_tree}
use Rattle.formula.specs.Table.{post}
use Rattle.formula.specs.Tree.{size}
use Rattle.formula.proofs.Growth.{post_length}
use Rattle.formula.proofs.Parenthood.{some_node}
use Rattle.grammar.specs.declared.level.Level.TheVariants.{Rule}
use Rattle.grammar.specs.declared.line.Line.{Line}
use Rattle.grammar.specs.declared.token.Token.{Token}
use Rattle.grammar.specs.Grammar.{Is}
use Rattle.grammar.specs.Names.{Phrase, listed, names_of, EachOnce}
use Rattle.grammar.specs.Readings.{Reading, said, reading_of}
use Rattle.grammar.specs.Words.{words, token_names}
use Rattle.grammar.proofs.Numbering.{listed_once, listed_all}
use Rattle.grammar.proofs.Said.{size_numbered, word_nodes, names_in_line}
use Rattle.reading.specs.Answers.{Answer, Answers, too_long, faulty, too_many, taken}
use Rattle.reading.specs.Bytes.{upper, plain, with, not, and, or, then}
use Rattle.reading.specs.Decoding.{Runs, stops, itself, ampersand, reference}
use Rattle.reading.specs.Lines.{IsStored, WellRead}
use Rattle.reading.specs.Spells.{Spells, Spelt, here, space, token, TokenAt, opens, closes, word, name}
use Rattle.reading.specs.declared.fault.RuleFault.{RuleFault}
use Rattle.reading.proofs.Replies.{Owed}

-- bytes of names are not 0
-- a test that 0 fails
positive : (f : ℕ → Bool) → f 0 ≡ false → (b : ℕ) → f b ≡ true → 0 < b
positive f e zero h = absurd (false≢true (sym e ∙ h))
positive f e (suc b) h = omega arith

runs_pos : {sp : List (List ℕ)} {bs r n : List ℕ} → Runs sp bs r n → AllByRecursion (λ b. 0 < b) n
runs_pos (stops e) = tt
runs_pos (itself {b = b} h x) = (positive plain refl b h, runs_pos x)
runs_pos (ampersand e x) = ((let z : 0 < 38 = omega arith in z), runs_pos x)
runs_pos (reference e x) = ((let z : 0 < 38 = omega arith in z), runs_pos x)

-- a token's name, before others
named : {q : ℕ} {bs rest : List ℕ} {k : Token} → TokenAt q bs k rest → (ts : List Token) → AllByRecursion IsStored (token_names ts) → AllByRecursion IsStored (token_names (k ∷ ts))
named opens ts h = h
named closes ts h = h
named (word with e) ts h = h
named (word not e) ts h = h
named (word and e) ts h = h
named (word or e) ts h = h
named (word then e) ts h = h
named (name {b = b} {n = n} u x l) ts h =
    ((b ∷ n, record { few = omega arith; no_zero = (positive upper refl b u, runs_pos x) }, refl), h)

spelt_names : {end : ℕ} {r : List ℕ} {t u : Bool} {q : ℕ} {bs : List ℕ} {ts : List Token} → Spelt end r t u q bs ts → AllByRecursion IsStored (token_names ts)
spelt_names here = tt
spelt_names (space x) = spelt_names x
spelt_names (token {ts = ts} a x e y) = named x ts (spelt_names y)

-- how a line came to be taken
record Came (bs : List ℕ) (x : Reading) : Type 0 where
  tokens : List Token
  rule : Phrase
  spells : Spells bs tokens
  is : Is Rule tokens rule
  reads : x ≡ reading_of rule

ok_same : {x y : Reading} → ◌≡◌ {A = Answer} (Ok x) (Ok y) → x ≡ y
ok_same e = cc

err_ok : {f : RuleFault} {x : Reading} → ◌≡◌ {A = Answer} (Err f) (Ok x) → ⊥
err_ok e = cc

came : (bs : List ℕ) (a : Answer) (x : Reading) → Answers bs a → a ≡ Ok x → Came bs x
came bs a x (too_long l) e = absurd (err_ok e)
came bs a x (faulty l h) e = absurd (err_ok e)
came bs a x (too_many l s y w) e = absurd (err_ok e)
came bs a x (taken {ts = ts} {t = t} l s y w) e = record { tokens = ts; rule = t; spells = s; is = y; reads = sym (ok_same e) }

-- a line has no more than one reading
same_reading : (bs : List ℕ) (x : Reading) → Owed bs (Ok x) → length bs ≤ 512 → (ts : List Token) (t : Phrase) → Spells bs ts → Is Rule ts t → x ≡ reading_of t
same_reading bs x o l ts t s y = ⊎_elim
    (λ w. absurd (err_ok (o.2 _ (too_many l s y w))))
    (λ w. sym (ok_same (o.2 (Ok (reading_of t)) (taken l s y w))))
    (cases_lt 32 (words ts))

short : (bs : List ℕ) (a : Answer) (x : Reading) → Answers bs a → a ≡ Ok x → length bs ≤ 512
short bs a x (too_long l) e = absurd (err_ok e)
short bs a x (faulty l h) e = absurd (err_ok e)
short bs a x (too_many l s y w) e = l
short bs a x (taken l s y w) e = l

-- a formula's type says how many nodes there are at most, and that it has a tree
node_bounds : (l : Line) → (1 ≤ length (nodes_of l.formula)) × (length (nodes_of l.formula) ≤ 32)
node_bounds l =
    let some = some_node (formula_tree l.formula) in
    let same : length (post 0 (formula_tree l.formula)) ≡ length (nodes_of l.formula) = ap length l.formula.whole in
    let taken = length-take l.formula.nodes.count l.formula.nodes.items in
    let most = l.formula.nodes.few in
    (omega arith, omega arith)

pub well_read : (bs : List ℕ) (l : Line) → Owed bs (Ok (said l)) → WellRead bs l
well_read bs l o =
    let c = came bs (Ok (said l)) (said l) o.1 refl in
    let few = short bs (Ok (said l)) (said l) o.1 refl in
    let ns : (said l).names ≡ listed [] (names_of c.rule) = ap (λ (x : Reading). x.names) c.reads in
    record {
      nodes = λ ts t s y.
          let e : formula_tree l.formula ≡ (reading_of t).tree = ap (λ (x : Reading). x.tree) (same_reading bs (said l) o few ts t s y) in
          ap length (sym l.formula.whole) ∙ post_length 0 (formula_tree l.formula) ∙ ap size e ∙ size_numbered (listed [] (names_of t)) t ∙ word_nodes y;
      bounds = node_bounds l;
      names = λ ts t s y. ap (λ (x : Reading). x.names) (same_reading bs (said l) o few ts t s y) ∙ ap (listed []) (sym (names_in_line y));
      once = subst EachOnce (sym ns) (listed_once [] (names_of c.rule) (λ i h. absurd (let z : ⊥ = omega arith in z)));
      decoded = subst (AllByRecursion IsStored) (sym ns) (listed_all IsStored [] (names_of c.rule) tt (subst (AllByRecursion IsStored) (names_in_line c.is) (spelt_names c.spells.1)));
    }
