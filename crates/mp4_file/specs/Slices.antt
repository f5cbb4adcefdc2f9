-- Bytes that lie in several slices, and bytes that are cut into parts.
use Rattle.std.specs.Prelude.{ℕ, List, [], ◌∷◌, map, take, drop}
use Rattle.std.specs.List.{flat_map}
use Rattle.std.specs.Borrow.{Bor}

-- the bytes of the slices, one after the other
abbrev pub joined : List (Bor (List ℕ)) → List ℕ
joined pieces = flat_map (λ (bytes : List ℕ). bytes) (map (λ (piece : Bor (List ℕ)). piece.now) pieces)

-- the parts of bytes that have these lengths, from the front on
abbrev pub cut : List ℕ → List ℕ → List (List ℕ)
cut [] bytes = []
cut (n ∷ lengths) bytes = take n bytes ∷ cut lengths (drop n bytes)
