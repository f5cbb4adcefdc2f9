-- The weight by which a surround of 5.1 stands in the height channels of 3.1.2: IAMF 1.0.0, "Demixing Info Parameter Data",
-- w and its index, in ten-thousandths.
use Rattle.std.specs.Prelude.{ℕ, List, [], ◌∷◌, min, slice_index}

abbrev pub weights : List ℕ
weights = 0 ∷ 179 ∷ 391 ∷ 658 ∷ 1038 ∷ 2500 ∷ 3962 ∷ 4342 ∷ 4609 ∷ 4821 ∷ 5000 ∷ []

-- an index above 10 counts as 10
abbrev pub weight_of : ℕ → ℕ
weight_of index = slice_index weights (min index 10)
