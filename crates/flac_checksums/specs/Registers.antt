-- Words of bits, and the register of long division after bits.
use Rattle.std.specs.Prelude.{ℕ, List, [], ◌∷◌, ◌++◌}
use Rattle.spec_bits.specs.Bits.{Bits, zeros, bits_of}
use Rattle.spec_checksums.specs.Polynomials.{poly_16, steps}

-- the remainder of bits by the polynomial of degree 16
abbrev pub register : Bits → Bits
register bits = steps poly_16 (zeros 16) bits

-- the bits of words of 64 bits, one word after the other
abbrev pub words_bits : List ℕ → Bits
words_bits [] = []
words_bits (x ∷ xs) = bits_of 64 x ++ words_bits xs
