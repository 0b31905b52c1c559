-- A climb over all tokens of a rule.
use Rattle.std.proofs.Common.{◌≡◌, ℕ, true, List, [], ◌∷◌, ◌++◌, length, Bor, IsSomeAnd, Some, None, Option, sym, refl, ap, ◌∙◌, subst, MatchOption}
use Rattle.formula.specs.declared.node.Pair.{Pair}
use Rattle.formula.specs.Tree.{Tree, spans}
use Rattle.formula.specs.Table.{post, tree_of, pair_place}
use Rattle.formula.specs.Within.{within}
use Rattle.formula.proofs.Growth.{tree_of_post}
use Rattle.grammar.specs.declared.draft.Draft.{Draft}
use Rattle.grammar.specs.declared.name.Named.{Named}
use Rattle.grammar.specs.declared.token.Token.{Token}
use Rattle.grammar.specs.declared.token.Token.TheVariants.{Open, Close, Name, With, Not, And, Or, Then}
use Rattle.grammar.specs.declared.level.Level.TheVariants.{Rule}
use Rattle.grammar.specs.declared.state.State.TheVariants.{HavePart}
use Rattle.grammar.specs.Names.{Phrase, listed, names_of, numbered}
use Rattle.grammar.specs.Reads.{Reads}
use Rattle.grammar.specs.Automaton.{run, complete, accepted}
use Rattle.grammar.specs.Parser.{parse}
use Rattle.grammar.specs.Drafts.{nodes_in, names_in}
use Rattle.grammar.specs.Words.{Rising}
use Rattle.grammar.specs.Climbing.{Stops, Hopeless, Climbed}
use Rattle.grammar.specs.Readings.{Reading, reading_of}
use Rattle.grammar.proofs.Lefts.{taken_all}
use Rattle.grammar.proofs.Complete.{moves, parsed}
use Rattle.grammar.proofs.Hopes.{never}
use Rattle.grammar.proofs.Ready.{some_none}
use Rattle.grammar.proofs.Numbering.{listed_holds}
use Rattle.grammar.proofs.Orders.{all_in_order, holds_within}

ends_here : (r : List Token) → Stops Rule r → complete (run (Some (HavePart 0)) r) ≡ true → r ≡ []
ends_here [] s e = refl
ends_here (Open ∷ m) s e = absurd (never m e)
ends_here (Close ∷ m) s e = absurd (never m e)
ends_here (Name b ∷ m) s e = absurd (never m e)
ends_here (With p ∷ m) s e = absurd (never m e)
ends_here (Not p ∷ m) s e = absurd (never m e)
ends_here (And p ∷ m) s e = absurd (some_none s)
ends_here (Or p ∷ m) s e = absurd (some_none s)
ends_here (Then p ∷ m) s e = absurd (some_none s)

-- what a draft holds that was built from the tokens of a rule
pub record Built (ts : List Token) (d : Draft) : Type 0 where
  pub rule : Phrase
  pub is : parse ts ≡ Some rule
  pub names : names_in d ≡ listed [] (names_of rule)
  pub tree : tree_of (nodes_in d) ≡ numbered (listed [] (names_of rule)) rule
  pub whole : post 0 (tree_of (nodes_in d)) ≡ nodes_in d
  pub in_order : spans pair_place 0 512 (tree_of (nodes_in d)) ≡ true
  pub named : within (length (names_in d)) (tree_of (nodes_in d)) ≡ true

pub built : (ts : List Token) (r : Option (Bor (List Token) × ℕ)) (before after : Draft) → accepted ts ≡ true → Rising 0 512 ts → nodes_in before ≡ [] → names_in before ≡ []
    → MatchOption r (Hopeless ts) (λ p. Climbed Rule ts p.0.now p.1 before after)
    → Built ts after
built ts None before after a i z y h = absurd (h 0 a)
built ts (Some p) before after a i z y h =
    let t = h.0.tree in
    let x : Reads Rule ts p.0.now t = h.0.reads in
    let n = ends_here p.0.now h.1 (sym (ap complete (moves x 0)) ∙ a) in
    let whole : Reads Rule ts [] t = subst (λ s. Reads Rule ts s t) n x in
    let m : names_in after ≡ listed [] (names_of t) = h.0.names ∙ ap (λ s. listed s (names_of t)) y in
    let f : nodes_in after ≡ post 0 (numbered (names_in after) t) = h.0.holds ∙ ap (λ s. s ++ post (length s) (numbered (names_in after) t)) z in
    let g : tree_of (nodes_in after) ≡ numbered (names_in after) t = ap tree_of f ∙ tree_of_post (numbered (names_in after) t) in
    let k = all_in_order (names_in after) whole 512 i in
    let w : within (length (names_in after)) (numbered (names_in after) t) ≡ true = subst (λ s. within (length s) (numbered s t) ≡ true) (sym m) (holds_within (listed [] (names_of t)) t (listed_holds [] t)) in
    record {
      rule = t;
      is = parsed (taken_all whole);
      names = m;
      tree = g ∙ ap (λ s. numbered s t) m;
      whole = ap (post 0) g ∙ sym f;
      in_order = ap (spans pair_place 0 512) g ∙ k;
      named = ap (within (length (names_in after))) g ∙ w;
    }

pub says : (ts : List Token) (d : Draft) (x : Reading) → Built ts d → x ≡ record { tree = tree_of (nodes_in d); names = names_in d } → IsSomeAnd (parse ts) (λ t. x ≡ reading_of t)
says ts d x b e =
    subst (λ o. IsSomeAnd o (λ t. x ≡ reading_of t)) (sym b.is)
    (e ∙ ap (λ (u : Tree (Pair ℕ)). record { tree = u; names = names_in d }) b.tree ∙ ap (λ (ns : List Named). record { tree = numbered (listed [] (names_of b.rule)) b.rule; names = ns }) b.names)
