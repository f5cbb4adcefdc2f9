-- Numbers and kinds in a list of bytes.
use Rattle.std.specs.Prelude.{ℕ, ◌+◌, ◌*◌, List, [], ◌∷◌, slice_index}

-- the number in the four bytes from a place on, the most significant first
abbrev pub word_at : List ℕ → ℕ → ℕ
word_at f p = slice_index f p * 0x1000000 + slice_index f (p + 1) * 0x10000 + slice_index f (p + 2) * 0x100 + slice_index f (p + 3)

-- the number in eight bytes
abbrev pub long_at : List ℕ → ℕ → ℕ
long_at f p = word_at f p * 0x100000000 + word_at f (p + 4)

-- four bytes, as they stand
abbrev pub kind_at : List ℕ → ℕ → List ℕ
kind_at f p = slice_index f p ∷ slice_index f (p + 1) ∷ slice_index f (p + 2) ∷ slice_index f (p + 3) ∷ []
