-- The rows of planes that a frame of the shape fills.
use Rattle.std.specs.Prelude.{ℤ, List, [], ◌∷◌, take, if◌then◌else◌, ◌==◌}
use Rattle.iamf_bits.specs.Rows.{Rows, row_of}
use Rattle.spec_flac.specs.declared.shape.FlacShape.{FlacShape}

-- as many samples at the front of each of the first rows as the frame has
abbrev pub rows_of : FlacShape → Rows → List (List ℤ)
rows_of shape planes = if shape.channels == 1 then take shape.length (row_of planes 0) ∷ [] else take shape.length (row_of planes 0) ∷ take shape.length (row_of planes 1) ∷ []
