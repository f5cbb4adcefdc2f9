-- No definitions: what is looked up to compare definitions, for the prover.
use Rattle.std.specs.Prelude.{ℕ, List, [], ◌∷◌, ◌++◌, Option, Some, None, is_some, if◌then◌else◌}
use Rattle.spec_blocks.specs.Shape.{Shape, Definition, shape_of}
use Rattle.obu_data.specs.ShapeView.{view_shape}
use Rattle.obu_data.specs.declared.definition.Shape as shapes

abbrev pub one_definition : ℕ → shapes.Shape → Definition
one_definition id shape = record { parameter_id = id; shape = view_shape shape }

abbrev pub with_shape : List Definition → ℕ → Option Shape → List Definition
with_shape before id None = before
with_shape before id (Some shape) = before ++ record { parameter_id = id; shape = shape } ∷ []

-- with what is known of the parameter, unless it is there
abbrev pub recalled : List Definition → List Definition → ℕ → List Definition
recalled before known id = if is_some (shape_of before id) then before else with_shape before id (shape_of known id)
