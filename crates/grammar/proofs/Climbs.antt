-- The steps of precedence climbing.
use Rattle.std.proofs.Common.{Bor, ◌≡◌, ℕ, suc, ◌+◌, ◌<◌, Bool, true, false, cond, List, [], ◌∷◌, ◌++◌, length, drop, Some, None, Option, sym, refl, ap, ◌∙◌, subst, append_assoc, arith, length-append}
use Rattle.formula.specs.declared.node.Node.TheVariants as node
use Rattle.formula.specs.Tree.{not}
use Rattle.formula.specs.Table.{top, post}
use Rattle.grammar.specs.declared.draft.Draft.{Draft}
use Rattle.grammar.specs.declared.name.Named.{Named}
use Rattle.grammar.specs.declared.token.Token.{Token}
use Rattle.grammar.specs.declared.token.Token.TheVariants.{Open, Close, Name, With, Not, And, Or, Then}
use Rattle.grammar.specs.declared.climb.Connective.{Connective}
use Rattle.grammar.specs.declared.climb.Connective.TheVariants as op
use Rattle.grammar.specs.declared.level.Level.{Level}
use Rattle.grammar.specs.declared.level.Level.TheVariants.{Rule, Part}
use Rattle.grammar.specs.Names.{Phrase, enlist, listed, names_of, pair_in, numbered}
use Rattle.grammar.specs.Grammar.{pair}
use Rattle.grammar.specs.Reads.{Reads, pair_read, not_read, parens_read, part_read}
use Rattle.grammar.specs.Words.{weight, words}
use Rattle.grammar.specs.Drafts.{nodes_in, names_in}
use Rattle.grammar.specs.Climbing.{continues, token_of, allowed, connective_of, right_level, join_node, closer, Linked, linked, filled, Got, Climbed}
use Rattle.grammar.proofs.Hopes.{closer_is, linked_is}
use Rattle.grammar.proofs.Ready.{some_none, Ready, Head, ready_joint, from_part, join, joins, shape, counted}
use Rattle.grammar.proofs.Numbering.{top_numbered, listed_append, listed_holds, holds_keeps}

-- a phrase so far, which the next word may still take for its left side
abbrev pub Climbing : Level → List Token → List Token → ℕ → Draft → Draft → Type 0
Climbing l ts r node before after = (g : Got l ts r node before after) × Ready ts r g.tree

-- room taken and room left
pub room : {l : Level} {ts r : List Token} {n : ℕ} {before after : Draft} → Got l ts r n before after → filled after + words r ≡ filled before + words ts
room {before = before} g =
    let h = counted g.reads (filled before) in
    let e = g.counts in
    let f = g.is_top in
    omega arith

-- one part, with its tree
started : {l : Level} {ts r : List Token} {n : ℕ} {before after : Draft} (t : Phrase)
    → length r < length ts → Reads Part ts r t
    → names_in after ≡ listed (names_in before) (names_of t)
    → nodes_in after ≡ nodes_in before ++ post (filled before) (numbered (names_in after) t)
    → n ≡ top (filled before) t → filled after ≡ suc n
    → Climbing l ts r n before after
started {l} {r = r} t o x m h k c =
    (record { tree = t; onward = o; reads = from_part l x; names = m; holds = h; is_top = k; counts = c }, ready_joint r (part_read x))

allowed_is : (l : Level) (ks : List Token) (i j : Connective) → allowed l i ≡ Some j → (token_of i ∷ ks ≡ token_of j ∷ ks) × (continues j l ≡ true)
allowed_is l ks i j e = go (continues i l) refl e
  where
    go : (t : Bool) → continues i l ≡ t → cond t (Some i) None ≡ Some j → (token_of i ∷ ks ≡ token_of j ∷ ks) × (continues j l ≡ true)
    go true g f = let s : i ≡ j = cc in (ap (λ x. token_of x ∷ ks) s, ap (λ x. continues x l) (sym s) ∙ g)
    go false g f = absurd (some_none (sym f))

word_is : (l : Level) (ks : List Token) (j : Connective) → connective_of ks l ≡ Some j → (ks ≡ token_of j ∷ drop 1 ks) × (continues j l ≡ true)
word_is l [] j e = absurd (some_none (sym e))
word_is l (Open ∷ ks) j e = absurd (some_none (sym e))
word_is l (Close ∷ ks) j e = absurd (some_none (sym e))
word_is l (Name a ∷ ks) j e = absurd (some_none (sym e))
word_is l (With p ∷ ks) j e = absurd (some_none (sym e))
word_is l (Not p ∷ ks) j e = absurd (some_none (sym e))
word_is l (And p ∷ ks) j e = allowed_is l ks (op.And p) j e
word_is l (Or p ∷ ks) j e = allowed_is l ks (op.Or p) j e
word_is l (Then p ∷ ks) j e = allowed_is l ks (op.Then p) j e

-- the word that comes first, before what stands behind it
pub word_before : (l : Level) (ks m : List Token) (j : Connective) → connective_of ks l ≡ Some j → m ≡ drop 1 ks → (ks ≡ token_of j ∷ m) × (continues j l ≡ true)
word_before l ks m j e f = let w = word_is l ks j e in (w.0 ∙ ap (λ s. token_of j ∷ s) (sym f), w.1)

pub word_weight : (j : Connective) → weight (token_of j) ≡ 1
word_weight (op.And p) = refl
word_weight (op.Or p) = refl
word_weight (op.Then p) = refl

-- one node more
pub one_more : {X : Type 0} (xs ys : List X) (x : X) → ys ≡ xs ++ x ∷ [] → length ys ≡ length xs + 1
one_more xs ys x e = ap length e ∙ length-append xs (x ∷ [])

pub from_pair : {l : Level} {ts m : List Token} {n : ℕ} {before after : Draft} (p : ℕ) (a b : Named) (r : List Token)
    → ts ≡ Name a ∷ m → ◌≡◌ {A = Option Linked} (linked m) (Some (p, b, r))
    → n ≡ filled before → names_in after ≡ enlist (enlist (names_in before) a) b
    → nodes_in after ≡ nodes_in before ++ node.Leaf (pair_in (names_in after) (record { place = p; first = a; second = b })) ∷ []
    → Climbing l ts r n before after
from_pair {m = ks} {before = before} {after = after} p a b r f g k m h =
    let c = one_more (nodes_in before) (nodes_in after) _ h in
    let e = f ∙ ap (λ s. Name a ∷ s) (linked_is ks p b r g) in
    started (pair p a b) (omega (arith, ap length e))
    (subst (λ s. Reads Part s r (pair p a b)) (sym e) pair_read)
    m h k (omega arith)

pub from_not : {l : Level} {ts m r : List Token} {n e : ℕ} {before mid after : Draft} (p : ℕ)
    → ts ≡ Not p ∷ m → Climbed Part m r e before mid
    → n ≡ filled mid → names_in after ≡ names_in mid → nodes_in after ≡ nodes_in mid ++ node.Not p e ∷ []
    → Climbing l ts r n before after
from_not {r = r} {e = e} {before = before} {mid = mid} {after = after} p d g k m h =
    let t = g.0.tree in
    let o = g.0.onward in
    let e_is = g.0.is_top in
    let m_is = g.0.counts in
    let c = one_more (nodes_in mid) (nodes_in after) _ h in
    let ns = names_in after in
    let held : nodes_in mid ≡ nodes_in before ++ post (filled before) (numbered ns t) =
    g.0.holds ∙ ap (λ s. nodes_in before ++ post (filled before) (numbered s t)) (sym m) in
    started (not p t) (omega (arith, ap length d))
    (subst (λ s. Reads Part s r (not p t)) (sym d) (not_read g.0.reads))
    (m ∙ g.0.names)
    (h ∙ ap (λ s. s ++ node.Not p e ∷ []) held ∙ append_assoc (nodes_in before) (post (filled before) (numbered ns t)) (node.Not p e ∷ [])
    ∙ ap (λ i. nodes_in before ++ (post (filled before) (numbered ns t) ++ node.Not p i ∷ [])) (e_is ∙ sym (top_numbered ns (filled before) t)))
    (omega arith) (omega arith)

pub from_open : {l : Level} {ts m s r : List Token} {n : ℕ} {before after : Draft}
    → ts ≡ Open ∷ m → Climbed Rule m s n before after → closer s ≡ Some r
    → Climbing l ts r n before after
from_open {m = m} {s = s} {r = r} d g f =
    let t = g.0.tree in
    let o = g.0.onward in
    let e = closer_is s r f in
    started t (omega (arith, ap length d, ap length e))
    (subst (λ x. Reads Part x r t) (sym d) (parens_read (subst (λ x. Reads Rule m x t) e g.0.reads)))
    g.0.names g.0.holds g.0.is_top g.0.counts

glue : {X : Type 0} (a b c d p q j : List X) → b ≡ a ++ p → c ≡ b ++ q → d ≡ c ++ j → d ≡ a ++ (p ++ (q ++ j))
glue a b c d p q j e f g = g ∙ ap (λ s. s ++ j) (f ∙ ap (λ s. s ++ q) e) ∙ simp append_assoc

-- the nodes of a word behind those of its two sides, all by the last list of names
from_sides : (before mid late after : Draft) {nd n : ℕ} (k : Connective) (a b : Phrase)
    → names_in mid ≡ listed (names_in before) (names_of a) → names_in late ≡ listed (names_in mid) (names_of b) → names_in after ≡ names_in late
    → nodes_in mid ≡ nodes_in before ++ post (filled before) (numbered (names_in mid) a)
    → nodes_in late ≡ nodes_in mid ++ post (filled mid) (numbered (names_in late) b)
    → nodes_in after ≡ nodes_in late ++ join_node k nd n ∷ []
    → nd ≡ top (filled before) a → filled mid ≡ suc nd → n ≡ top (filled mid) b
    → nodes_in after ≡ nodes_in before ++ post (filled before) (numbered (names_in after) (join k a b))
from_sides before mid late after {nd} {n} k a b names_1 names_2 names_3 nodes_1 nodes_2 nodes_3 nd_is mid_is n_is =
    let ns = names_in after in
    let holds_a = listed_holds (names_in before) a in
    let same_a : numbered (names_in mid) a ≡ numbered ns a =
    ap (λ s. numbered s a) names_1 ∙ sym (holds_keeps (listed (names_in before) (names_of a)) (names_of b) a holds_a).0
    ∙ ap (λ s. numbered s a) (sym (names_3 ∙ names_2 ∙ ap (λ s. listed s (names_of b)) names_1)) in
    let same_b : numbered (names_in late) b ≡ numbered ns b = ap (λ s. numbered s b) (sym names_3) in
    let w = shape ns k (filled before) a b in
    let top_a : top (filled before) (numbered ns a) ≡ nd = top_numbered ns (filled before) a ∙ sym nd_is in
    let next : suc (top (filled before) (numbered ns a)) ≡ filled mid = ap suc top_a ∙ sym mid_is in
    let top_b : top (filled mid) (numbered ns b) ≡ n = top_numbered ns (filled mid) b ∙ sym n_is in
    let all = glue (nodes_in before) (nodes_in mid) (nodes_in late) (nodes_in after) (post (filled before) (numbered ns a)) (post (filled mid) (numbered ns b)) (join_node k nd n ∷ [])
    (nodes_1 ∙ ap (λ s. nodes_in before ++ post (filled before) s) same_a) (nodes_2 ∙ ap (λ s. nodes_in mid ++ post (filled mid) s) same_b) nodes_3 in
    all
    ∙ sym (ap (λ s. nodes_in before ++ s) (w.nodes
    ∙ ap (λ i. post (filled before) (numbered ns a) ++ (post i (numbered ns b) ++ join_node k (top (filled before) (numbered ns a)) (top i (numbered ns b)) ∷ [])) next
    ∙ ap (λ i. post (filled before) (numbered ns a) ++ (post (filled mid) (numbered ns b) ++ join_node k i (top (filled mid) (numbered ns b)) ∷ [])) top_a
    ∙ ap (λ i. post (filled before) (numbered ns a) ++ (post (filled mid) (numbered ns b) ++ join_node k nd i ∷ [])) top_b))

pub from_word : {l : Level} {ts r m end : List Token} {nd n e : ℕ} {before mid late after : Draft} (k : Connective)
    → Climbing l ts r nd before mid
    → r ≡ token_of k ∷ m → continues k l ≡ true
    → Climbed (right_level k) m end e mid late
    → n ≡ filled late → names_in after ≡ names_in late → nodes_in after ≡ nodes_in late ++ join_node k nd e ∷ []
    → Climbing l ts end n before after
from_word {l} {ts} {r} {m} {end} {nd} {n} {e} {before} {mid} {late} {after} k x d g y rk q h =
    let a = x.0.tree in
    let b = y.0.tree in
    let w = shape (names_in after) k (filled before) a b in
    let ready : Head ts (token_of k) m a = subst (λ s. Ready ts s a) d x.1 in
    let j = joins l ts a k end g ready y.0.reads y.1 in
    let o = x.0.onward in
    let p = y.0.onward in
    let c = one_more (nodes_in late) (nodes_in after) _ h in
    let mid_is : filled mid ≡ suc (top (filled before) a) = x.0.counts ∙ ap suc x.0.is_top in
    let e_is : e ≡ top (suc (top (filled before) a)) b = y.0.is_top ∙ ap (λ i. top i b) mid_is in
    let late_is : filled late ≡ suc e = y.0.counts in (
      record {
        tree = join k a b;
        onward = omega (arith, ap length d);
        reads = j.0;
        names = q ∙ y.0.names ∙ ap (λ s. listed s (names_of b)) x.0.names ∙ sym (listed_append (names_in before) (names_of a) (names_of b)) ∙ ap (listed (names_in before)) (sym w.names);
        holds = from_sides before mid late after k a b x.0.names y.0.names q x.0.holds y.0.holds h x.0.is_top x.0.counts y.0.is_top;
        is_top = rk ∙ late_is ∙ ap suc e_is ∙ sym w.index;
        counts = (let z : filled after ≡ suc n = omega arith in z);
      },
      j.1,
    )

pub moved : {l : Level} {ts : List Token} {before old new : Draft} {e : Bor (List Token) × ℕ} (f : Bor (List Token) × ℕ) → old ≡ new → e ≡ f
    → Climbing l ts f.0.now f.1 before new → Climbing l ts e.0.now e.1 before old
moved {l} {ts} {before} {old} {new} {e} f p q x =
    subst (λ o. Climbing l ts e.0.now e.1 before o) (sym p) (subst (λ (z : Bor (List Token) × ℕ). Climbing l ts z.0.now z.1 before new) (sym q) x)
