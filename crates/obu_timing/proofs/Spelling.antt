-- The canonical spelling of bytes.
use Rattle.std.proofs.Common.{◌≡◌, ℕ, List, [], ◌∷◌, ◌++◌, refl, ap}
use Rattle.spec_bits.specs.Bits.{Bits, bits_of, all_bits}
use Rattle.spec_bits.specs.Form.{Bytes, canonical}
use Rattle.spec_syntax.specs.Payload.{canon}
use Rattle.spec_syntax.specs.Repetition.{joined}
use Rattle.spec_descriptors.specs.ElementFields.{mapping_fields}

-- bytes are spelled as they are
pub bytes_spelled : (n : ℕ) (bytes : List ℕ) → canonical (Bytes n) bytes ≡ all_bits bytes
unfolding canonical
bytes_spelled n bytes = refl

-- the bytes of a mapping are fields of their own
pub mapping_spelled : (mapping : List ℕ) → canon (joined mapping_fields mapping) ≡ all_bits mapping
unfolding canonical all_bits
mapping_spelled [] = refl
mapping_spelled (x ∷ xs) = ap (λ (b : Bits). bits_of 8 x ++ b) (mapping_spelled xs)
