-- A number that is read from the bytes after a place is the number at that place.
use Rattle.std.proofs.Common.{◌≡◌, ℕ, ◌+◌, List, drop, ap, ◌∙◌, arith}
use Rattle.std.specs.Prelude.{slice_index}
use Rattle.std.proofs.lemmas.List.{get_or-drop}
use Rattle.byteorder.specs.Endian.{big_number}
use Rattle.spec_boxes.specs.Bytes.{word_at, long_at}

byte_is : (bytes : List ℕ) (at i : ℕ) → slice_index (drop at bytes) i ≡ slice_index bytes (at + i)
byte_is bytes at i = get_or-drop at bytes i 0

first_is : (bytes : List ℕ) (at : ℕ) → slice_index (drop at bytes) 0 ≡ slice_index bytes at
first_is bytes at = byte_is bytes at 0 ∙ ap (slice_index bytes) (omega arith)

pub word_is : (bytes : List ℕ) (at : ℕ) → big_number 4 (drop at bytes) ≡ word_at bytes at
word_is bytes at = omega (arith, first_is bytes at, byte_is bytes at 1, byte_is bytes at 2, byte_is bytes at 3)

-- the lower four of eight bytes
lower_is : (bytes : List ℕ) (at i : ℕ) → slice_index (drop at bytes) (4 + i) ≡ slice_index bytes (at + 4 + i)
lower_is bytes at i = byte_is bytes at (4 + i) ∙ ap (slice_index bytes) (omega arith)

fourth_is : (bytes : List ℕ) (at : ℕ) → slice_index (drop at bytes) 4 ≡ slice_index bytes (at + 4)
fourth_is bytes at = byte_is bytes at 4

pub long_is : (bytes : List ℕ) (at : ℕ) → big_number 8 (drop at bytes) ≡ long_at bytes at
long_is bytes at = omega (arith, first_is bytes at, byte_is bytes at 1, byte_is bytes at 2, byte_is bytes at 3, fourth_is bytes at, lower_is bytes at 1, lower_is bytes at 2, lower_is bytes at 3)
