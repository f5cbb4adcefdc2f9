-- The canonical spelling of an OBU: every leb128 as short as can be, and every reserved bit 0
-- (IAMF 1.0.0, "OBU Header Syntax and Semantics" and "leb128()").
use Rattle.std.specs.Prelude.{ℕ, zero, suc, ◌/◌, List, [], ◌∷◌, ◌++◌, length, take, drop}
use Rattle.spec_bits.specs.Bits.{Bits, number_of}
use Rattle.spec_syntax.specs.Payload.{canon}
use Rattle.spec_obu.specs.Canonical.{canonical_header}
use Rattle.spec_values.specs.Content.{fields_of}
use Rattle.spec_values.specs.Value.{ObuValue}

-- so many bytes from the front of bits
unfoldable pub bytes_of : ℕ → Bits → List ℕ
bytes_of zero bits = []
bytes_of (suc n) bits = number_of (take 8 bits) ∷ bytes_of n (drop 8 bits)

abbrev pub packed : Bits → List ℕ
packed bits = bytes_of (length bits / 8) bits

abbrev pub canonical_payload : ObuValue → List ℕ
canonical_payload o = packed (canon (fields_of o.head.kind o.content)) ++ o.tail

unfoldable pub canonical_obu : ObuValue → List ℕ
canonical_obu o = canonical_header o.head (canonical_payload o)

-- one after the other
abbrev pub encoded : List ObuValue → List ℕ
encoded [] = []
encoded (o ∷ os) = canonical_obu o ++ encoded os
