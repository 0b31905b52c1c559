-- The two scales: yes and no; yes, no and open. Rests on Ops.
use Rattle.std.specs.Prelude.{Bool, false, not as flip, ◌&&◌, ◌||◌}
use Rattle.formula.specs.Ops.{Ops}
use Rattle.formula.specs.declared.scale.Three.{Three}
use Rattle.formula.specs.declared.scale.Three.TheVariants.{Yes, No, Open}

-- yes and no: the operations of Bool
abbrev pub two : Ops Bool
two = record { both = λ x y. x && y; either = λ x y. x || y; opposite = flip }

-- the not of open is open
abbrev pub three_not : Three → Three
three_not Yes = No
three_not No = Yes
three_not Open = Open

-- an and is no if a part is no, yes if both are yes, else open
abbrev pub three_and : Three → Three → Three
three_and Yes y = y
three_and No y = No
three_and Open Yes = Open
three_and Open No = No
three_and Open Open = Open

-- an or is yes if a part is yes, no if both are no, else open
abbrev pub three_or : Three → Three → Three
three_or Yes y = Yes
three_or No y = y
three_or Open Yes = Yes
three_or Open No = Open
three_or Open Open = Open

-- yes, no and open
abbrev pub three : Ops Three
three = record { both = three_and; either = three_or; opposite = three_not }

-- what a list is read as where it has no element, which no promise depends on
abbrev pub two_blank : Bool
two_blank = false

abbrev pub three_blank : Three
three_blank = Yes
