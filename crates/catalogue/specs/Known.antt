-- The different names of the lines taken, and what is so of them. Rests on Counts, and on Answers of crate reading.
use Rattle.std.specs.Prelude.{◌≡◌, Bool, true, false, cond, not, ◌&&◌, ◌||◌, List, [], ◌∷◌, ◌++◌, Ok, Err, map}
use Rattle.grammar.specs.declared.name.Name.{Name}
use Rattle.grammar.specs.declared.name.Named.{Named}
use Rattle.reading.specs.Answers.{Answer}
use Rattle.catalogue.specs.Counts.{has}

-- names one after another, each kept at the end where it does not stand yet
abbrev pub learned : List Name → List Named → List Name
learned ns [] = ns
learned ns (x ∷ xs) = learned (cond (has ns x.name) ns (ns ++ x.name ∷ [])) xs

-- after a line that is taken its names are known too; a line that is refused brings none
abbrev pub known : Answer → List Name → List Name
known (Ok x) ns = learned ns x.names
known (Err f) ns = ns

-- whether a line is taken and has this name
abbrev pub brings : Answer → Name → Bool
brings (Ok x) n = has (map (λ (y : Named). y.name) x.names) n
brings (Err f) n = false

-- no name stands twice
abbrev pub distinct : List Name → Bool
distinct [] = true
distinct (x ∷ xs) = not (has xs x) && distinct xs

-- After a line the known names are those known before and those of the line, if it is taken; and no name stands twice, if none did before.
pub record Learned (a : Answer) (old new : List Name) : Type 0 where
  pub names : (n : Name) → has new n ≡ (has old n || brings a n)
  pub once : distinct old ≡ true → distinct new ≡ true
