-- What is sure of the OBU at the front of some bytes, whatever follows them.
use Rattle.std.specs.Prelude.{◌≡◌, ℕ, ◌≤◌, ◌⊎◌, List, length, take, drop}
use Rattle.spec_bits.specs.Leb.{AllGoOn}
use Rattle.spec_obu.specs.declared.HeaderFault.{HeaderFault}
use Rattle.spec_obu.specs.declared.HeaderFault.TheVariants.{Cut}
use Rattle.spec_obu.specs.Faults.{SizeIs, IsFirstFault}

-- The bytes after the first one of an OBU begin with its whole `obu_size`, or with 8 bytes that all say that another
-- follows (IAMF 1.0.0, "OBU Header Syntax and Semantics").
abbrev pub HasWholeSize : List ℕ → Type 0
HasWholeSize after = ((n : ℕ) × (v : ℕ) × SizeIs after n v) ⊎ ((8 ≤ length after) × AllGoOn (take 8 after))

-- The header has this fault, and keeps it whatever follows.
pub record IsSure (f : HeaderFault) (bytes : List ℕ) : Type 0 where
  pub first : IsFirstFault f bytes
  pub uncut : f ≡ Cut → ⊥
  pub sized : HasWholeSize (drop 1 bytes)

-- The bytes, which may be none, are cut off before an OBU is whole and before a fault of its header is sure.
pub record IsPartial (bytes : List ℕ) : Type 0 where
  pub fault : HeaderFault
  pub first : IsFirstFault fault bytes
  pub unsure : IsSure fault bytes → ⊥
