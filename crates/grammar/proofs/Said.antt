-- A rule has a node for each of its words, and the names of its tokens.
use Rattle.std.proofs.Common.{◌≡◌, suc, ◌+◌, List, ◌++◌, sym, refl, ap, ◌∙◌, ap₂, append_assoc, append-nil, arith}
use Rattle.formula.specs.Tree.{leaf, not, and, or, then, size}
use Rattle.formula.proofs.Growth.{top_size}
use Rattle.grammar.specs.declared.name.Named.{Named}
use Rattle.grammar.specs.declared.token.Token.{Token}
use Rattle.grammar.specs.declared.level.Level.{Level}
use Rattle.grammar.specs.declared.level.Level.TheVariants.{Rule}
use Rattle.grammar.specs.Names.{Phrase, names_of, numbered}
use Rattle.grammar.specs.Grammar.{Is}
use Rattle.grammar.specs.Reads.{Reads, pair_read, not_read, parens_read, part_read, and_read, conjunction_read, or_read, disjunction_read, then_read}
use Rattle.grammar.specs.Words.{words, token_names}
use Rattle.grammar.proofs.Lefts.{read_all}
use Rattle.grammar.proofs.Ready.{counted}

pub size_numbered : (ns : List Named) (t : Phrase) → size (numbered ns t) ≡ size t
size_numbered ns (leaf p) = refl
size_numbered ns (not p t) = ap suc (size_numbered ns t)
size_numbered ns (and p t u) = ap₂ (λ m n. suc (m + n)) (size_numbered ns t) (size_numbered ns u)
size_numbered ns (or p t u) = ap₂ (λ m n. suc (m + n)) (size_numbered ns t) (size_numbered ns u)
size_numbered ns (then p t u) = ap₂ (λ m n. suc (m + n)) (size_numbered ns t) (size_numbered ns u)

pub word_nodes : {ts : List Token} {t : Phrase} → Is Rule ts t → size t ≡ words ts
word_nodes {t = t} x = let h = counted (read_all x) 0 in let g = top_size 0 t in omega arith

two_sides : (a b r ts ms : List Named) → ts ≡ a ++ ms → ms ≡ b ++ r → ts ≡ (a ++ b) ++ r
two_sides a b r ts ms e f = e ∙ ap (λ s. a ++ s) f ∙ sym (append_assoc a b r)

names_read : {l : Level} {ts r : List Token} {t : Phrase} → Reads l ts r t → token_names ts ≡ names_of t ++ token_names r
names_read pair_read = refl
names_read (not_read x) = names_read x
names_read (parens_read x) = names_read x
names_read (part_read x) = names_read x
names_read (and_read x y) = two_sides _ _ _ _ _ (names_read x) (names_read y)
names_read (conjunction_read x) = names_read x
names_read (or_read x y) = two_sides _ _ _ _ _ (names_read x) (names_read y)
names_read (disjunction_read x) = names_read x
names_read (then_read x y) = two_sides _ _ _ _ _ (names_read x) (names_read y)

pub names_in_line : {ts : List Token} {t : Phrase} → Is Rule ts t → token_names ts ≡ names_of t
names_in_line {t = t} x = names_read (read_all x) ∙ append-nil (names_of t)
