-- The demixing parameters of an element in a temporal unit (IAMF 1.0.0, "Demixing Info Parameter Data").
use Rattle.std.specs.Prelude.{ℕ, ◌+◌, ◌-◌, ◌==◌, min, if◌then◌else◌, ℤ, pos, negsuc, List, [], ◌∷◌, fold, take, Option, Some, None}
use Rattle.std.specs.List.{flat_map}
use Rattle.spec_gains.specs.declared.DemixMode.{DemixMode}
use Rattle.spec_gains.specs.Modes.{mode_of}
use Rattle.spec_gains.specs.Weights.{weight_of}
use Rattle.spec_descriptors.specs.AudioElement.{ParameterFields, Demixing, AudioElementFields}
use Rattle.spec_blocks.specs.ParameterBlock.{ContentFields, Demix}
use Rattle.spec_sequence.specs.Parts.{BlockValue, UnitValue}
use Rattle.spec_play.specs.Mixes.{Rendition, unit_of}
use Rattle.spec_play.specs.UsedLayers.{used_layers, need_parameters}

-- what an element's demixing definition says: the id of its blocks, dmixp_mode and default_w
pub record DemixingDefinition : Type 0 where
  pub id : ℕ
  pub mode : ℕ
  pub weight_index : ℕ

abbrev pub demixing_in : ParameterFields → List DemixingDefinition
demixing_in (Demixing definition mode weight_index) = record { id = definition.parameter_id; mode = mode; weight_index = weight_index } ∷ []
demixing_in _ = []

-- one at most
abbrev pub demixing_of : AudioElementFields → List DemixingDefinition
demixing_of element = flat_map demixing_in element.parameters

-- ---- blocks

abbrev pub mode_in : ContentFields → List ℕ
mode_in (Demix mode) = mode ∷ []
mode_in _ = []

-- the modes of a unit's blocks of an id, of which there is one at most
abbrev pub unit_modes : ℕ → UnitValue → List ℕ
unit_modes id unit = flat_map (λ (block : BlockValue). if block.fields.parameter_id == id then mode_in block.fields.content else []) unit.blocks

-- ---- the index of the weight

-- an index that is stepped is held to 0 to 10
abbrev pub moved : ℤ → ℕ → ℕ
moved (pos n) index = min (index + n) 10
moved (negsuc n) index = index - (n + 1)

-- a reserved mode leaves it
abbrev pub stepped : Option DemixMode → ℕ → ℕ
stepped None index = index
stepped (Some mode) index = moved mode.step index

-- a unit without a block leaves it too
abbrev pub index_after_modes : List ℕ → ℕ → ℕ
index_after_modes [] index = index
index_after_modes (mode ∷ modes) index = stepped (mode_of mode) index

-- the index after some units; it is 0 before the first
abbrev pub index_after : ℕ → List UnitValue → ℕ
index_after id units = fold (λ index unit. index_after_modes (unit_modes id unit) index) 0 units

-- ---- the parameters of a unit

pub record Parameters : Type 0 where
  pub mode : Option DemixMode
  pub weight : ℕ

-- those of a block, with the index after its unit, or the definition's own
abbrev pub defined_parameters : DemixingDefinition → List ℕ → ℕ → Parameters
defined_parameters definition [] index = record { mode = mode_of definition.mode; weight = weight_of definition.weight_index }
defined_parameters definition (mode ∷ modes) index = record { mode = mode_of mode; weight = weight_of index }

-- Where they do not matter, all parameters give the same channels.
abbrev pub any_parameters : Parameters
any_parameters = record { mode = mode_of 0; weight = weight_of 0 }

abbrev pub parameters_by : List DemixingDefinition → Rendition → ℕ → Parameters
parameters_by [] r u = any_parameters
parameters_by (definition ∷ definitions) r u = defined_parameters definition (unit_modes definition.id (unit_of r u)) (index_after definition.id (take (u + 1) r.units))

-- the demixing parameters of an element in unit u
unfoldable pub parameters_in : Rendition → AudioElementFields → ℕ → Parameters
parameters_in r element u = if need_parameters (used_layers r.target element.config) then parameters_by (demixing_of element) r u else any_parameters
