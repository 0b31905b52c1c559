-- What an iterator over lines has left. Rests on Lines.
use Rattle.std.specs.Prelude.{ℕ, List}
use Rattle.lines.specs.Lines.{lines_of}
use Rattle.lines.specs.declared.Lines.{Lines}

-- the lines that are to come
abbrev pub left : Lines → List (List ℕ)
left l = lines_of l.rest.now
