-- Which definition a parameter block is read by (IAMF 1.0.0, "Parameter Definition Syntax and Semantics").
use Rattle.std.specs.Prelude.{ℕ, List, [], ◌∷◌, ◌++◌, Option, Some, None, if◌then◌else◌, ◌==◌, is_some}
use Rattle.spec_descriptors.specs.ParameterDefinition.{FixedFields}

-- What two definitions of one id have to agree on: the kind, the rate, and the timing where the definition has it;
-- for recon gains also the flags of the element's layers, bit i for layer i. Default values are no part of it.
pub data Shape : Type 0 where
  MixGain : (parameter_rate : ℕ) → Option FixedFields → Shape
  Demixing : (parameter_rate : ℕ) → FixedFields → Shape
  ReconGain : (parameter_rate : ℕ) → FixedFields → (layers recon_flags : ℕ) → Shape

pub record Definition : Type 0 where
  pub parameter_id : ℕ
  pub shape : Shape

-- the shape of the first definition of the id
abbrev pub shape_of : List Definition → ℕ → Option Shape
shape_of [] parameter_id = None
shape_of (d ∷ definitions) parameter_id = if d.parameter_id == parameter_id then Some d.shape else shape_of definitions parameter_id

-- the definitions with one more, which goes last unless its id is there
abbrev pub with_definition : List Definition → Definition → List Definition
with_definition known d = if is_some (shape_of known d.parameter_id) then known else known ++ d ∷ []
