-- What a catalogue's report says of a line. Rests on Texts, Firing, Counts, and on Numbers of crate reading.
use Rattle.std.specs.Prelude.{ℕ, ◌+◌, ◌-◌, ◌^◌, min, List, [], ◌++◌, codes, map, replicate, Some, None, Option, Ok, Err, false, true}
use Rattle.std.specs.Fmt.{decimal}
use Rattle.formula.specs.Normal.{nnf}
use Rattle.formula.specs.Scales.{two}
use Rattle.formula.specs.Truth.{truth}
use Rattle.grammar.specs.Readings.{Reading}
use Rattle.reading.specs.Answers.{Answer}
use Rattle.reading.specs.Numbers.{number_of, carried_of, layer_of, layer_word}
use Rattle.reading.specs.declared.fault.RuleFault.{RuleFault}
use Rattle.catalogue.specs.Counts.{more}
use Rattle.catalogue.specs.Firing.{fires, spoken}
use Rattle.catalogue.specs.Texts.{place_of, shown_bytes, shown_name, shown_pair, shown_literal, shown_tree}

-- a rule: as read, in normal form, and its truth when every lot fires alone and when all fire together
abbrev pub taken_reply : Reading → List ℕ
taken_reply x =
    let names = map shown_name x.names in
    shown_tree (shown_pair names) x.tree
    ++ (codes "\n  normal form " ++ (shown_tree (shown_literal names) (nnf true x.tree)
    ++ (codes "\n  alone " ++ (spoken (truth two (fires false) x.tree)
    ++ (codes ", together " ++ (spoken (truth two (fires true) x.tree) ++ codes "\n"))))))

-- a mark under the place of a fault, behind the bar
abbrev pub mark : Option ℕ → List ℕ
mark None = []
mark (Some p) = codes "   " ++ (replicate p 32 ++ codes "^\n")

-- a refusal: its number, the number it carries, its layer, and the line between bars
abbrev pub refused_line : List ℕ → RuleFault → List ℕ
refused_line line f =
    codes "R " ++ (decimal (number_of f) ++ (codes " " ++ (decimal (carried_of f) ++ (codes " " ++ (layer_word (layer_of f)
    ++ (codes "\n  |" ++ (shown_bytes line ++ codes "|\n")))))))

-- and under it the mark
abbrev pub refused_reply : List ℕ → RuleFault → List ℕ
refused_reply line f = refused_line line f ++ mark (place_of f)

-- the number of the next line, after so many
abbrev pub line_number : ℕ → ℕ → ℕ
line_number taken refused = more (min (taken + refused) (2 ^ 64 - 1))

-- what is said of a line, by its number
abbrev pub reply : ℕ → List ℕ → Answer → List ℕ
reply n line (Ok x) = decimal n ++ (codes ": " ++ taken_reply x)
reply n line (Err f) = decimal n ++ (codes ": " ++ refused_reply line f)

-- the counts at the end: lines taken, lines refused, different names
abbrev pub counts_reply : ℕ → ℕ → ℕ → List ℕ
counts_reply taken refused names =
    decimal taken ++ (codes " taken, " ++ (decimal refused ++ (codes " refused, " ++ (decimal names ++ codes " names\n"))))
