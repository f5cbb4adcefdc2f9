-- What looking up and adding a definition answer.
use Rattle.std.specs.Prelude.{◌≡◌, ℕ, List, Option, Some, None, Result, Ok, Err}
use Rattle.std.specs.Borrow.{Bor}
use Rattle.spec_blocks.specs.Shape as fields
use Rattle.spec_blocks.specs.Shape.{Definition, shape_of, with_definition}
use Rattle.obu_data.specs.declared.definitions.DefinitionError.{DefinitionError}
use Rattle.obu_data.specs.declared.definitions.DefinitionError.TheVariants.{Clash, Memory}
use Rattle.obu_data.specs.declared.definition.Shape.{Shape}
use Rattle.obu_data.specs.ShapeView.{view_shape}

-- what was found is the shape
abbrev pub Finds : Option (Bor Shape) → Option fields.Shape → Type 0
Finds None found = found ≡ None
Finds (Some shape) found = found ≡ Some (view_shape shape.now)

-- a definition has the id, and another shape
abbrev pub Clashes : List Definition → ℕ → fields.Shape → Type 0
Clashes definitions id shape = (other : fields.Shape) × (shape_of definitions id ≡ Some other) × (other ≡ shape → ⊥)

abbrev pub Adds : List Definition → ℕ → fields.Shape → Result (Unit {0}) DefinitionError → List Definition → Type 0
Adds old id shape (Ok done) new = (Clashes old id shape → ⊥) × (new ≡ with_definition old (record { parameter_id = id; shape = shape }))
Adds old id shape (Err (Clash other)) new = (other ≡ id) × Clashes old id shape × (new ≡ old)
Adds old id shape (Err (Memory e)) new = (Clashes old id shape → ⊥) × (new ≡ old)
