-- The normal form of a tree: its nodes, its words, where they stand, and its pairs.
use Rattle.std.proofs.Common.{◌≡◌, ℕ, suc, ◌+◌, ◌*◌, ◌≤◌, Bool, true, false, not as flip, List, ◌++◌, map, length, refl, ap, ◌∙◌, ap₂, arith, length-append}
use Rattle.std.proofs.lemmas.List.{map-append}
use Rattle.std.proofs.lemmas.Bool.{and_from, and_parts, false≢true}
use Rattle.formula.specs.declared.literal.Literal.{Literal}
use Rattle.formula.specs.declared.node.Pair.{Pair}
use Rattle.formula.specs.Normal.{nnf, joined, is_normal, pair_of}
use Rattle.formula.specs.TableLaws.{FewWords}
use Rattle.formula.specs.Tree.{Tree, leaf, not, and, or, then, size, atoms}
use Rattle.formula.specs.Words.{words}

-- no more nodes than the formula
joined_size : {A : Type 0} (s : Bool) (p m n : ℕ) (t u : Tree A) → size t ≤ m → size u ≤ n → size (joined s p t u) ≤ suc (m + n)
joined_size true p m n t u h g = omega arith
joined_size false p m n t u h g = omega arith

pub nnf_size : (b : Bool) (t : Tree (Pair ℕ)) → size (nnf b t) ≤ size t
nnf_size b (leaf a) = omega arith
nnf_size b (not p t) = let h = nnf_size (flip b) t in omega arith
nnf_size b (and p t u) = joined_size b p (size t) (size u) _ _ (nnf_size b t) (nnf_size b u)
nnf_size b (or p t u) = joined_size (flip b) p (size t) (size u) _ _ (nnf_size b t) (nnf_size b u)
nnf_size b (then p t u) = joined_size (flip b) p (size t) (size u) _ _ (nnf_size (flip b) t) (nnf_size b u)

-- only leaves, `and` and `or`
joined_normal : {A : Type 0} (s : Bool) (p : ℕ) (t u : Tree A) → is_normal t ≡ true → is_normal u ≡ true → is_normal (joined s p t u) ≡ true
joined_normal true p t u h g = and_from (is_normal t) (is_normal u) h g
joined_normal false p t u h g = and_from (is_normal t) (is_normal u) h g

pub nnf_normal : (b : Bool) (t : Tree (Pair ℕ)) → is_normal (nnf b t) ≡ true
nnf_normal b (leaf a) = refl
nnf_normal b (not p t) = nnf_normal (flip b) t
nnf_normal b (and p t u) = joined_normal b p _ _ (nnf_normal b t) (nnf_normal b u)
nnf_normal b (or p t u) = joined_normal (flip b) p _ _ (nnf_normal b t) (nnf_normal b u)
nnf_normal b (then p t u) = joined_normal (flip b) p _ _ (nnf_normal (flip b) t) (nnf_normal b u)

-- the same pairs in the same order
joined_atoms : {A : Type 0} (s : Bool) (p : ℕ) (t u : Tree A) → atoms (joined s p t u) ≡ atoms t ++ atoms u
joined_atoms true p t u = refl
joined_atoms false p t u = refl

joined_pairs : (s : Bool) (p : ℕ) (t u : Tree Literal) (xs ys : List (Pair ℕ)) → map pair_of (atoms t) ≡ xs → map pair_of (atoms u) ≡ ys
    → map pair_of (atoms (joined s p t u)) ≡ xs ++ ys
joined_pairs s p t u xs ys h g = ap (map pair_of) (joined_atoms s p t u) ∙ map-append pair_of (atoms t) (atoms u) ∙ ap₂ (λ x y. x ++ y) h g

pub nnf_pairs : (b : Bool) (t : Tree (Pair ℕ)) → map pair_of (atoms (nnf b t)) ≡ atoms t
nnf_pairs b (leaf a) = refl
nnf_pairs b (not p t) = nnf_pairs (flip b) t
nnf_pairs b (and p t u) = joined_pairs b p _ _ _ _ (nnf_pairs b t) (nnf_pairs b u)
nnf_pairs b (or p t u) = joined_pairs (flip b) p _ _ _ _ (nnf_pairs b t) (nnf_pairs b u)
nnf_pairs b (then p t u) = joined_pairs (flip b) p _ _ _ _ (nnf_pairs (flip b) t) (nnf_pairs b u)

-- as many words
joined_words : {A : Type 0} (s : Bool) (p m n : ℕ) (t u : Tree A) → words t ≡ m → words u ≡ n → words (joined s p t u) ≡ suc (m + n)
joined_words true p m n t u h g = omega arith
joined_words false p m n t u h g = omega arith

pub nnf_words : (b : Bool) (t : Tree (Pair ℕ)) → words (nnf b t) ≡ words t
nnf_words b (leaf a) = refl
nnf_words b (not p t) = nnf_words (flip b) t
nnf_words b (and p t u) = joined_words b p _ _ _ _ (nnf_words b t) (nnf_words b u)
nnf_words b (or p t u) = joined_words (flip b) p _ _ _ _ (nnf_words b t) (nnf_words b u)
nnf_words b (then p t u) = joined_words (flip b) p _ _ _ _ (nnf_words (flip b) t) (nnf_words b u)

-- one leaf more than words, and a node for each of both
joined_leaves : {A : Type 0} (t u : List A) (m n : ℕ) → length t ≡ suc m → length u ≡ suc n → length (t ++ u) ≡ suc (suc (m + n))
joined_leaves t u m n h g = let e = length-append t u in omega arith

leaves_words : {A : Type 0} (t : Tree A) → length (atoms t) ≡ suc (words t)
leaves_words (leaf a) = refl
leaves_words (not p t) = leaves_words t
leaves_words (and p t u) = joined_leaves (atoms t) (atoms u) _ _ (leaves_words t) (leaves_words u)
leaves_words (or p t u) = joined_leaves (atoms t) (atoms u) _ _ (leaves_words t) (leaves_words u)
leaves_words (then p t u) = joined_leaves (atoms t) (atoms u) _ _ (leaves_words t) (leaves_words u)

words_size : {A : Type 0} (t : Tree A) → suc (2 * words t) ≤ size t
words_size (leaf a) = omega arith
words_size (not p t) = let h = words_size t in omega arith
words_size (and p t u) = let h = words_size t in let g = words_size u in omega arith
words_size (or p t u) = let h = words_size t in let g = words_size u in omega arith
words_size (then p t u) = let h = words_size t in let g = words_size u in omega arith

pub normal_size : {A : Type 0} (t : Tree A) → is_normal t ≡ true → size t ≡ suc (2 * words t)
normal_size (leaf a) e = refl
normal_size (not p t) e = absurd (false≢true e)
normal_size (and p t u) e = let b = and_parts (is_normal t) (is_normal u) e in let h = normal_size t b.0 in let g = normal_size u b.1 in omega arith
normal_size (or p t u) e = let b = and_parts (is_normal t) (is_normal u) e in let h = normal_size t b.0 in let g = normal_size u b.1 in omega arith
normal_size (then p t u) e = absurd (false≢true e)

pub few_words : {A : Type 0} (t : Tree A) → size t ≤ 32 → FewWords t
few_words t h = let g = words_size t in record { leaves = leaves_words t; most = omega arith }
