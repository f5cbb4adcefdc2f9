-- Bits that are written one after the other.
use Rattle.std.specs.Prelude.{ℕ, List, ◌++◌}
use Rattle.spec_bits.specs.Bits.{Bits, bits_of, all_bits}

-- the bits so far, and how many of them stand in a last byte that is not whole
pub record Written : Type 0 where
  pub bits : Bits
  pub used : ℕ

-- whole bytes, and after them so many bits of a number
unfoldable pub written_bits : List ℕ → ℕ → ℕ → Bits
written_bits bytes part used = all_bits bytes ++ bits_of used part

abbrev pub written_of : List ℕ → ℕ → ℕ → Written
written_of bytes part used = record { bits = written_bits bytes part used; used = used }
