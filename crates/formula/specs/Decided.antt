-- Truths that are decided, and those that are open. Rests on Three.
use Rattle.std.specs.Prelude.{◌≡◌, Bool, true, false, ◌⊎◌, Some, None, Option}
use Rattle.formula.specs.declared.scale.Three.{Three}
use Rattle.formula.specs.declared.scale.Three.TheVariants.{Yes, No, Open}

-- a truth of the scale of two in the scale of three
abbrev pub known : Bool → Three
known true = Yes
known false = No

-- the truth of the scale of two that a truth of the scale of three stands for, if it is decided
abbrev pub decided : Three → Option Bool
decided Yes = Some true
decided No = Some false
decided Open = None

-- y says all that x says: x is open, or they are equal
abbrev pub Less : Three → Three → Type 0
Less x y = (x ≡ Open) ⊎ (x ≡ y)

-- b is a choice for x: true if x is yes, false if x is no
abbrev pub Chosen : Three → Bool → Type 0
Chosen x b = (x ≡ Yes → b ≡ true) × (x ≡ No → b ≡ false)
