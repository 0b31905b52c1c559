-- What precedence climbing finds. Rests on Reads, Automaton, Names and Drafts.
use Rattle.std.specs.Prelude.{◌≡◌, ℕ, suc, ◌<◌, Bool, true, false, cond, List, [], ◌∷◌, ◌++◌, length, Some, None, Option, ◌≢◌}
use Rattle.formula.specs.declared.node.Node.{Node}
use Rattle.formula.specs.declared.node.Node.TheVariants as node
use Rattle.formula.specs.declared.node.Pair.{Pair}
use Rattle.formula.specs.Table.{top, post}
use Rattle.grammar.specs.declared.draft.Draft.{Draft}
use Rattle.grammar.specs.declared.name.Named.{Named}
use Rattle.grammar.specs.declared.token.Token.{Token}
use Rattle.grammar.specs.declared.token.Token.TheVariants.{Open, Close, Name, With, Not, And, Or, Then}
use Rattle.grammar.specs.declared.climb.Connective.{Connective}
use Rattle.grammar.specs.declared.climb.Connective.TheVariants as op
use Rattle.grammar.specs.declared.level.Level.{Level}
use Rattle.grammar.specs.declared.level.Level.TheVariants.{Rule, Disjunction, Conjunction, Part}
use Rattle.grammar.specs.declared.state.State.TheVariants.{WantPart}
use Rattle.grammar.specs.Reads.{Reads}
use Rattle.grammar.specs.Automaton.{run, complete}
use Rattle.grammar.specs.Names.{Phrase, listed, names_of, numbered}
use Rattle.grammar.specs.Drafts.{nodes_in, names_in}

-- which levels a word binds more tightly than
abbrev pub over_part : Level → Bool
over_part Rule = true
over_part Disjunction = true
over_part Conjunction = true
over_part Part = false

abbrev pub over_joint : Level → Bool
over_joint Rule = true
over_joint Disjunction = true
over_joint Conjunction = false
over_joint Part = false

abbrev pub over_choice : Level → Bool
over_choice Rule = true
over_choice Disjunction = false
over_choice Conjunction = false
over_choice Part = false

-- whether a phrase of the level goes on over the word
abbrev pub continues : Connective → Level → Bool
continues (op.And p) l = over_part l
continues (op.Or p) l = over_joint l
continues (op.Then p) l = over_choice l

-- the token that a word is
abbrev pub token_of : Connective → Token
token_of (op.And p) = And p
token_of (op.Or p) = Or p
token_of (op.Then p) = Then p

abbrev pub allowed : Level → Connective → Option Connective
allowed l j = cond (continues j l) (Some j) None

abbrev pub between : Level → Token → Option Connective
between l Open = None
between l Close = None
between l (Name a) = None
between l (With p) = None
between l (Not p) = None
between l (And p) = allowed l (op.And p)
between l (Or p) = allowed l (op.Or p)
between l (Then p) = allowed l (op.Then p)

-- the word that comes first, where a phrase of the level goes on over it
abbrev pub connective_of : List Token → Level → Option Connective
connective_of [] l = None
connective_of (k ∷ ks) l = between l k

-- the level of what stands to the right of the word
abbrev pub right_level : Connective → Level
right_level (op.And p) = Part
right_level (op.Or p) = Conjunction
right_level (op.Then p) = Rule

-- the node of a word over two others
abbrev pub join_node : Connective → ℕ → ℕ → Node (Pair ℕ)
join_node (op.And p) a b = node.And p a b
join_node (op.Or p) a b = node.Or p a b
join_node (op.Then p) a b = node.Then p a b

abbrev pub if_close : Token → List Token → Option (List Token)
if_close Open ks = None
if_close Close ks = Some ks
if_close (Name n) ks = None
if_close (With p) ks = None
if_close (Not p) ks = None
if_close (And p) ks = None
if_close (Or p) ks = None
if_close (Then p) ks = None

-- what stands behind a closing parenthesis that comes first
abbrev pub closer : List Token → Option (List Token)
closer [] = None
closer (k ∷ ks) = if_close k ks

-- the second name of a pair, between the place of its `with` and what stands behind it
abbrev pub Linked : Type 0
Linked = ℕ × Named × List Token

abbrev pub name_next : ℕ → Token → List Token → Option Linked
name_next p Open ks = None
name_next p Close ks = None
name_next p (Name b) ks = Some (p, b, ks)
name_next p (With q) ks = None
name_next p (Not q) ks = None
name_next p (And q) ks = None
name_next p (Or q) ks = None
name_next p (Then q) ks = None

abbrev pub name_first : ℕ → List Token → Option Linked
name_first p [] = None
name_first p (k ∷ ks) = name_next p k ks

abbrev pub with_first : Token → List Token → Option Linked
with_first Open ks = None
with_first Close ks = None
with_first (Name b) ks = None
with_first (With p) ks = name_first p ks
with_first (Not q) ks = None
with_first (And q) ks = None
with_first (Or q) ks = None
with_first (Then q) ks = None

-- the place of `with` and the second name, behind the first
abbrev pub linked : List Token → Option Linked
linked [] = None
linked (k ∷ ks) = with_first k ks

-- no rule goes on with these tokens where a part is wanted
abbrev pub Hopeless : List Token → Type 0
Hopeless ts = (d : ℕ) → complete (run (Some (WantPart d)) ts) ≢ true

-- a phrase of the level does not go on here
abbrev pub Stops : Level → List Token → Type 0
Stops l ts = connective_of ts l ≡ None

-- how many nodes a draft has
abbrev pub filled : Draft → ℕ
filled d = length (nodes_in d)

-- the tokens ts up to r are a phrase of the level, and `after` has its names and its nodes behind those of `before`
pub record Got (l : Level) (ts r : List Token) (node : ℕ) (before after : Draft) : Type 0 where
  pub tree : Phrase
  pub onward : length r < length ts
  pub reads : Reads l ts r tree
  pub names : names_in after ≡ listed (names_in before) (names_of tree)
  pub holds : nodes_in after ≡ nodes_in before ++ post (filled before) (numbered (names_in after) tree)
  pub is_top : node ≡ top (filled before) tree
  pub counts : filled after ≡ suc node

-- such a phrase, which does not go on over the next token
abbrev pub Climbed : Level → List Token → List Token → ℕ → Draft → Draft → Type 0
Climbed l ts r node before after = Got l ts r node before after × Stops l r
