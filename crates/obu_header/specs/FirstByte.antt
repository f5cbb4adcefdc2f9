-- The first byte of an OBU, taken apart.
use Rattle.std.specs.Prelude.{◌≡◌, ℕ}
use Rattle.spec_obu.specs.Header.{kind_of, is_redundant, is_trimmed, is_extended}
use Rattle.obu_header.specs.declared.first_byte.FirstByte.{FirstByte}

pub record Decodes (first : FirstByte) (byte : ℕ) : Type 0 where
  pub kind : first.kind ≡ kind_of byte
  pub redundant : first.redundant ≡ is_redundant byte
  pub trimmed : first.trimmed ≡ is_trimmed byte
  pub extended : first.extended ≡ is_extended byte
