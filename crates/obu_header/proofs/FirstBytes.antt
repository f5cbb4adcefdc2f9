-- The flags of a first byte that was taken apart.
use Rattle.std.proofs.Common.{◌≡◌, ℕ, Bool, ◌∙◌, refl}
use Rattle.spec_obu.specs.Kinds.{obu_type_of}
use Rattle.spec_obu.specs.Header.{are_allowed, flags_allowed}
use Rattle.obu_header.specs.declared.first_byte.FirstByte.{FirstByte}
use Rattle.obu_header.specs.FirstByte.{Decodes}

pub is_allowed : {first : FirstByte} {byte : ℕ} {allowed : Bool} → Decodes first byte → allowed ≡ are_allowed (obu_type_of first.kind) first.redundant first.trimmed → allowed ≡ flags_allowed byte
is_allowed d e = e ∙ rw (d.kind, d.redundant, d.trimmed) refl
