-- Numbers of lots in formulas.
use Rattle.std.proofs.Common.{◌≡◌, ℕ, zero, suc, ◌<◌, ◌≤◌, Bool, true, ◌&&◌, ltb, leb, List, [], ◌∷◌, ◌++◌, length, get_or, Some, refl, ap, ◌∙◌, ap₂, arith}
use Rattle.std.proofs.ByRecursion.{All-append}
use Rattle.std.specs.List.{AllByRecursion, slice_get}
use Rattle.std.proofs.lemmas.Bool.{and_parts, and_from, leb-true, le-leb, ltb-true}
use Rattle.std.proofs.lemmas.List.Folds.{list_all-append}
use Rattle.std.proofs.lemmas.List.Sums.{AllPass-from_list_all, list_all-from_AllPass}
use Rattle.std.specs.Option.{option_map}
use Rattle.formula.specs.declared.node.Pair.{Pair}
use Rattle.formula.specs.Tree.{Tree, leaf, not, and, or, then, map_tree, map_pair, atoms, every}
use Rattle.formula.specs.Within.{within, pair_below}
use Rattle.grammar.specs.declared.name.Name.{Name}
use Rattle.grammar.specs.declared.name.Named.{Named}
use Rattle.grammar.specs.Names.{nobody}
use Rattle.rules.specs.Asking.{tree_at}
use Rattle.rules.specs.Entries.{Entry, all_among}
use Rattle.rules.specs.Leaves.{pair_among, among}
use Rattle.rules.specs.LotLaws.{LotsOf, OverLots}
use Rattle.rules.specs.OverLots.{lot_of_named, tree_over_lots}
use Rattle.rules.proofs.LotNumbers.{Known}

module _ {A : Type 0} (q r : A → Bool) (weaker : (a : A) → q a ≡ true → r a ≡ true) where
  both_weaker : (a b c d : Bool) → (a ≡ true → c ≡ true) → (b ≡ true → d ≡ true) → (a && b) ≡ true → (c && d) ≡ true
  both_weaker a b c d f g e = let p = and_parts a b e in and_from c d (f p.0) (g p.1)

  -- a weaker test passes too
  pub every_weaker : (t : Tree A) → every q t ≡ true → every r t ≡ true
  every_weaker (leaf a) e = weaker a e
  every_weaker (not p t) e = every_weaker t e
  every_weaker (and p t u) e = both_weaker _ _ _ _ (every_weaker t) (every_weaker u) e
  every_weaker (or p t u) e = both_weaker _ _ _ _ (every_weaker t) (every_weaker u) e
  every_weaker (then p t u) e = both_weaker _ _ _ _ (every_weaker t) (every_weaker u) e

every_map : {A B : Type 0} (q : B → Bool) (f : A → B) (t : Tree A) → every q (map_tree f t) ≡ every (λ a. q (f a)) t
every_map q f (leaf a) = refl
every_map q f (not p t) = every_map q f t
every_map q f (and p t u) = ap₂ (λ x y. x && y) (every_map q f t) (every_map q f u)
every_map q f (or p t u) = ap₂ (λ x y. x && y) (every_map q f t) (every_map q f u)
every_map q f (then p t u) = ap₂ (λ x y. x && y) (every_map q f t) (every_map q f u)

pub pair_parts : (n : ℕ) (p : Pair ℕ) → pair_among n p ≡ true → (1 ≤ p.first) × (p.first ≤ n) × (1 ≤ p.second) × (p.second ≤ n)
pair_parts n p e =
    let b = and_parts (leb 1 p.first && leb p.first n) (leb 1 p.second && leb p.second n) e in
    let x = and_parts (leb 1 p.first) (leb p.first n) b.0 in
    let y = and_parts (leb 1 p.second) (leb p.second n) b.1 in
    (leb-true 1 p.first x.0, leb-true p.first n x.1, leb-true 1 p.second y.0, leb-true p.second n y.1)

pair_from : (n : ℕ) (p : Pair ℕ) → 1 ≤ p.first → p.first ≤ n → 1 ≤ p.second → p.second ≤ n → pair_among n p ≡ true
pair_from n p a b c d = and_from _ _ (and_from _ _ (le-leb 1 p.first a) (le-leb p.first n b)) (and_from _ _ (le-leb 1 p.second c) (le-leb p.second n d))

-- more lots
pub among_wider : (n m : ℕ) (t : Tree (Pair ℕ)) → n ≤ m → among n t ≡ true → among m t ≡ true
among_wider n m t h =
    every_weaker (pair_among n) (pair_among m) (λ p e. let b = pair_parts n p e in pair_from m p b.0 (omega (arith, b.1)) b.2 (omega (arith, b.3))) t

pub all_wider : (n m : ℕ) (es : List Entry) → n ≤ m → all_among n es ≡ true → all_among m es ≡ true
all_wider n m es h e =
    list_all-from_AllPass (λ (x : Entry). among m x.tree) es (λ i d l. among_wider n m (get_or es i d).tree h (AllPass-from_list_all (λ (x : Entry). among n x.tree) es e i d l))

-- one more rule
pub all_push : (n : ℕ) (es : List Entry) (x : Entry) → all_among n es ≡ true → among n x.tree ≡ true → all_among n (es ++ x ∷ []) ≡ true
all_push n es x e h = list_all-append (λ (y : Entry). among n y.tree) es (x ∷ []) ∙ and_from _ _ e (and_from _ _ h refl)

-- the formula of each rule
pub item_among : (n k : ℕ) (es : List Entry) (t : Tree (Pair ℕ)) → all_among n es ≡ true → tree_at k es ≡ Some t → among n t ≡ true
item_among n zero es t h e = absurd (let z : ◌≡◌ {A = ℕ} 0 1 = cc in omega arith)
item_among n (suc i) es t h e = go i es h e
  where
    go : (i : ℕ) (es : List Entry) → all_among n es ≡ true → option_map (λ (x : Entry). x.tree) (slice_get es i) ≡ Some t → among n t ≡ true
    go i [] h e = absurd (let z : ◌≡◌ {A = ℕ} 0 1 = cc in omega arith)
    go zero (x ∷ es) h e = let s : t ≡ x.tree = cc in ap (among n) s ∙ (and_parts (among n x.tree) (all_among n es) h).0
    go (suc i) (x ∷ es) h e = go i es (and_parts (among n x.tree) (all_among n es) h).1 e

-- a formula over names that are lots
pub over_among : (ls : List Name) (xs : List Named) (t : Tree (Pair ℕ)) → ((i : ℕ) → i < length xs → Known (get_or xs i nobody).name ls)
    → within (length xs) t ≡ true → among (length ls) (tree_over_lots ls xs t) ≡ true
over_among ls xs t known h =
    every_map (pair_among (length ls)) (map_pair (lot_of_named ls xs)) t
    ∙ every_weaker (pair_below (length xs)) (λ (p : Pair ℕ). pair_among (length ls) (map_pair (lot_of_named ls xs) p))
    (λ p e.
    let b = and_parts (ltb p.first (length xs)) (ltb p.second (length xs)) e in
    pair_from (length ls) (map_pair (lot_of_named ls xs) p)
    (omega arith) (known p.first (ltb-true p.first (length xs) b.0))
    (omega arith) (known p.second (ltb-true p.second (length xs) b.1)))
    t h

-- in words
every_all : {A : Type 0} (q : A → Bool) (P : A → Type 0) → ((a : A) → q a ≡ true → P a) → (t : Tree A) → every q t ≡ true → AllByRecursion P (atoms t)
every_all q P h (leaf a) e = (h a e, tt)
every_all q P h (not p t) e = every_all q P h t e
every_all q P h (and p t u) e = let b = and_parts (every q t) (every q u) e in All-append P (atoms t) (atoms u) (every_all q P h t b.0) (every_all q P h u b.1)
every_all q P h (or p t u) e = let b = and_parts (every q t) (every q u) e in All-append P (atoms t) (atoms u) (every_all q P h t b.0) (every_all q P h u b.1)
every_all q P h (then p t u) e = let b = and_parts (every q t) (every q u) e in All-append P (atoms t) (atoms u) (every_all q P h t b.0) (every_all q P h u b.1)

pub over_in_words : (n k : ℕ) (es : List Entry) (t : Tree (Pair ℕ)) → all_among n es ≡ true → tree_at k es ≡ Some t → OverLots n t
over_in_words n k es t h e =
    every_all (pair_among n) (LotsOf n) (λ p s. let b = pair_parts n p s in record { first = (b.0, b.1); second = (b.2, b.3) }) t (item_among n k es t h e)
