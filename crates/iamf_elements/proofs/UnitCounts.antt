-- How many temporal units there are, and what the first of their blocks says.
use Rattle.std.proofs.Common.{◌≡◌, ap, ◌∙◌, refl, List, [], ◌∷◌, ℕ, length, take}
use Rattle.spec_rules.specs.Units.{unit_count}
use Rattle.spec_sequence.specs.Parts.{temporal_units}
use Rattle.spec_sequence.specs.Reading.{Entry, values_of, roles}
use Rattle.spec_sequence.proofs.Roles.{roles_of_values}
use Rattle.spec_sequence.proofs.FramesOfUnits.{length-units}
use Rattle.spec_play.specs.DemixingOverTime.{DemixingDefinition}
use Rattle.spec_play.specs.Selection.{is_reserved, uses_reserved}

pub count_of_units : (l : List Entry) → length (temporal_units (values_of l)) ≡ unit_count (roles l)
count_of_units l = length-units (values_of l) ∙ ap unit_count (roles_of_values l)

pub first_reserved : (definition : DemixingDefinition) (modes : List ℕ) (mode : ℕ) → mode ∷ [] ≡ take 1 modes → is_reserved mode ≡ uses_reserved definition modes
first_reserved definition [] mode e = absurd (cc)
first_reserved definition (m ∷ modes) mode e = let same : mode ≡ m = cc in ap is_reserved same

pub none_reserved : (definition : DemixingDefinition) (modes : List ℕ) → [] ≡ take 1 modes → is_reserved definition.mode ≡ uses_reserved definition modes
none_reserved definition [] e = refl
none_reserved definition (m ∷ modes) e = absurd (cc)
