-- The parameter definitions that are made of a descriptor.
use Rattle.std.specs.Prelude.{◌≡◌, ℕ, ◌≤◌, List, [], ◌∷◌, ◌++◌, length, map}
use Rattle.std.specs.List.{All}
use Rattle.spec_blocks.specs.Shape.{Shape, Definition}
use Rattle.spec_descriptors.specs.Layers.{LayerFields}
use Rattle.spec_descriptors.specs.AudioElement.{ParameterFields, Demixing, ReconGain, Extension}
use Rattle.obu_data.specs.ShapeView.{LastsAFrame, MayDefine}
use Rattle.obu_data.specs.DefinitionView.{view_definition}
use Rattle.obu_data.specs.declared.definition.Definition.{Definition as Owned}

-- these were put last, each as a descriptor that reads has it
pub record Defines (old new : List Owned) (more : List Definition) : Type 0 where
  pub are : map view_definition new ≡ map view_definition old ++ more
  pub allowed : All (λ d. MayDefine d.shape) old → All (λ d. MayDefine d.shape) new

abbrev pub one_definition : ℕ → Shape → List Definition
one_definition id shape = record { parameter_id = id; shape = shape } ∷ []

-- The definition of a parameter is as an admitted element has it: blocks last a frame, and recon gains have layers.
abbrev pub CanDefine : List LayerFields → ParameterFields → Type 0
CanDefine layers (Demixing d mode weight) = LastsAFrame d.fixed
CanDefine layers (ReconGain d) = LastsAFrame d.fixed × (1 ≤ length layers) × (length layers ≤ 6)
CanDefine layers (Extension kind bytes) = Unit {0}
