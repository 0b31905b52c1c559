-- The two scales obey the laws. Rests on Ops, Scales.
use Rattle.std.proofs.Common.{◌≡◌, true, false, refl}
use Rattle.formula.specs.declared.scale.Three.TheVariants.{Yes, No, Open}
use Rattle.formula.specs.Ops.{Laws}
use Rattle.formula.specs.Scales.{two, three}

pub two_laws : Laws two
two_laws = record {
  twice = λ x. elim x as (λ y. two.opposite (two.opposite y) ≡ y) [ true ↦ refl | false ↦ refl ];
  dual = λ x y. elim x as (λ z. two.opposite (two.both z y) ≡ two.either (two.opposite z) (two.opposite y)) [ true ↦ refl | false ↦ refl ];
}

pub three_laws : Laws three
three_laws = record {
  twice = λ x. elim x as (λ y. three.opposite (three.opposite y) ≡ y) [ Yes ↦ refl | No ↦ refl | Open ↦ refl ];
  dual = λ x y. elim x as (λ z. three.opposite (three.both z y) ≡ three.either (three.opposite z) (three.opposite y)) [
    | Yes ↦ refl
    | No ↦ refl
    | Open ↦ elim y as (λ z. three.opposite (three.both Open z) ≡ three.either Open (three.opposite z)) [ Yes ↦ refl | No ↦ refl | Open ↦ refl ]
  ];
}
