-- The demixing parameters that an element has once some units were begun.
use Rattle.std.specs.Prelude.{◌≡◌, ℕ, ◌+◌, ◌<◌, ◌≤◌, false, List, [], ◌∷◌, length, take, Option, Some, None, slice_index_or}
use Rattle.spec_gains.specs.Modes.{IsMode}
use Rattle.spec_descriptors.specs.AudioElement.{AudioElementFields}
use Rattle.spec_sequence.specs.Parts.{UnitValue}
use Rattle.spec_play.specs.Mixes.{Rendition, no_unit}
use Rattle.spec_play.specs.DemixingOverTime.{Parameters, unit_modes, index_after, any_parameters, defined_parameters, parameters_by, parameters_in}
use Rattle.spec_play.specs.Selection.{uses_reserved}
use Rattle.demix_channels.specs.declared.params.DemixParams.{DemixParams}
use Rattle.iamf_elements.specs.declared.demixing.DemixingDefinition.{DemixingDefinition}
use Rattle.iamf_elements.specs.DemixingView.{view_demixing}
use Rattle.iamf_channels.specs.declared.parameters.Demixing.{Demixing}

-- these are the parameters
pub record AreParameters (p : Parameters) (params : DemixParams) : Type 0 where
  pub mode : p.mode ≡ Some params.mode
  pub weight : p.weight ≡ params.weight

-- an element has its parameters by this definition, and the same ones always without one
abbrev pub HasParameters : Rendition → AudioElementFields → Option DemixingDefinition → Type 0
HasParameters r element None = (u : ℕ) → parameters_in r element u ≡ any_parameters
HasParameters r element (Some definition) = (u : ℕ) → parameters_in r element u ≡ parameters_by (view_demixing definition ∷ []) r u

-- the unit uses no reserved mode
abbrev pub IsUnreserved : UnitValue → DemixingDefinition → Type 0
IsUnreserved unit definition = uses_reserved (view_demixing definition) (unit_modes definition.id unit) ≡ false

abbrev pub AreUnreserved : List UnitValue → Option DemixingDefinition → Type 0
AreUnreserved units None = Unit {0}
AreUnreserved units (Some definition) = (u : ℕ) → u < length units → IsUnreserved (slice_index_or units u no_unit) definition

-- the index of the weight after the first units
abbrev pub IsIndex : List UnitValue → Option DemixingDefinition → ℕ → ℕ → Type 0
IsIndex units None begun index = Unit {0}
IsIndex units (Some definition) begun index = index ≡ index_after definition.id (take begun units)

-- the parameters of a unit by a definition, where the index of the weight is given
abbrev pub unit_parameters : UnitValue → DemixingDefinition → ℕ → Parameters
unit_parameters unit definition index = defined_parameters (view_demixing definition) (unit_modes definition.id unit) index

-- What is kept of the element's parameters once so many units were begun: the parameters are those of the last of them.
pub record HasDemixing (r : Rendition) (element : AudioElementFields) (begun : ℕ) (d : Demixing) : Type 0 where
  pub by : HasParameters r element d.definition
  pub unreserved : AreUnreserved r.units d.definition
  pub index : IsIndex r.units d.definition begun d.index
  pub last : (u : ℕ) → begun ≡ u + 1 → AreParameters (parameters_in r element u) d.params
  pub always : d.definition ≡ None → AreParameters any_parameters d.params

-- what playing asks of them
pub record AreSound (d : Demixing) : Type 0 where
  pub index : d.index ≤ 10
  pub mode : IsMode d.params.mode
  pub weight : d.params.weight ≤ 5000
