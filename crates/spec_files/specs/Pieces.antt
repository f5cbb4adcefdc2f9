-- Boxes as they are written, each a kind and a body (ISO/IEC 14496-12, "Object Structure"), and the fields in them.
use Rattle.std.specs.Prelude.{ℕ, ◌+◌, ◌==◌, nat_eq, Bool, true, ◌&&◌, ◌||◌, List, [], ◌∷◌, ◌++◌, length, replicate}
use Rattle.std.specs.Cmp.Lexicographic.{pointwise}
use Rattle.std.specs.Int.{bytes_high_first}

-- numbers of 16, 32 and 64 bits, the most significant byte first
abbrev pub half : ℕ → List ℕ
half x = bytes_high_first 2 x

abbrev pub word : ℕ → List ℕ
word x = bytes_high_first 4 x

abbrev pub long : ℕ → List ℕ
long x = bytes_high_first 8 x

abbrev pub zeros : ℕ → List ℕ
zeros n = replicate n 0

pub record Piece : Type 0 where
  pub kind : List ℕ
  pub body : List ℕ

abbrev pub piece : List ℕ → List ℕ → Piece
piece kind body = record { kind = kind; body = body }

-- the bytes of a box: its size, its kind and its body
abbrev pub box : List ℕ → List ℕ → List ℕ
box kind body = word (8 + length body) ++ (kind ++ body)

-- the bytes of boxes, end to end
abbrev pub written : List Piece → List ℕ
written [] = []
written (p ∷ ps) = box p.kind p.body ++ written ps

abbrev pub piece_is : List ℕ → Piece → Bool
piece_is kind p = pointwise nat_eq p.kind kind

abbrev pub piece_either : List ℕ → List ℕ → Piece → Bool
piece_either kind other p = piece_is kind p || piece_is other p

-- each kind has four bytes
abbrev pub fours : List Piece → Bool
fours [] = true
fours (p ∷ ps) = (length p.kind == 4) && fours ps
