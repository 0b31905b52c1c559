-- Lots added one name after another.
use Rattle.std.proofs.Common.{◌≡◌, ℕ, ◌+◌, ◌<◌, List, length, get_or, drop, Ok, Err, sym, ap, ◌∙◌}
use Rattle.std.proofs.lemmas.List.{at_drop_more}
use Rattle.grammar.specs.declared.name.Name.{Name}
use Rattle.grammar.specs.declared.name.Named.{Named}
use Rattle.grammar.specs.Names.{nobody}
use Rattle.rules.specs.declared.fault.TakeFault.{TakeFault}
use Rattle.rules.specs.Adding.{lot_added, lots_added}
use Rattle.rules.specs.Outcomes.{done, settled, and_then}
use Rattle.rules.proofs.Refusals.{refused_by, done_with}

-- one name further
module _ (ls : List Name) (xs : List Named) (i : ℕ) (h : i < length xs) where
  first_of : lots_added ls (drop i xs) ≡ and_then (lot_added ls (get_or xs i nobody)) (λ ms. lots_added ms (drop (i + 1) xs))
  first_of = at_drop_more (lots_added ls) xs i nobody h

  pub adding_stops : (f : TakeFault) → Err f ≡ done (lot_added ls (get_or xs i nobody)) → lots_added ls (drop i xs) ≡ Err f
  adding_stops f e = first_of ∙ ap (λ r. and_then r (λ ms. lots_added ms (drop (i + 1) xs))) (refused_by (lot_added ls (get_or xs i nobody)) f e)

  pub adding_goes_on : (new : List Name) → Ok tt ≡ done (lot_added ls (get_or xs i nobody)) → new ≡ settled ls (lot_added ls (get_or xs i nobody))
      → lots_added new (drop (i + 1) xs) ≡ lots_added ls (drop i xs)
  adding_goes_on new e s = sym (first_of ∙ ap (λ r. and_then r (λ ms. lots_added ms (drop (i + 1) xs))) (done_with (lot_added ls (get_or xs i nobody)) ls new e s))
