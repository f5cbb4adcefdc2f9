-- The configuration of an IAMF track (IAMF 1.0.0, "IA Sample Entry" and "IA Configuration Box").
use Rattle.std.specs.Prelude.{ℕ, ◌-◌, ◌==◌, nat_lt, not, if◌then◌else◌, List, filter, drop, slice_index, Result, Ok, Err}
use Rattle.spec_bits.specs.declared.FieldFault.{FieldFault}
use Rattle.spec_bits.specs.ByteReading.{◌>>=◌, leb_at, bytes_at}
use Rattle.spec_boxes.specs.declared.kinds.TheConstants.{IACB}
use Rattle.spec_boxes.specs.declared.fault.BoxFault.TheVariants.{Config}
use Rattle.spec_boxes.specs.declared.fault.BoxRefusal.{BoxRefusal}
use Rattle.spec_boxes.specs.Boxes.{Box, refuse}
use Rattle.spec_boxes.specs.Parts.{either_is, exactly_one, children}
use Rattle.spec_boxes.specs.Tables.{payload}
use Rattle.spec_boxes.specs.ObuLists.{are_obus, in_config}

-- The configuration: its version, and so many bytes that are OBUs.
abbrev pub sized_config : Box → Result (List ℕ × List ℕ) FieldFault → Result (List ℕ) BoxRefusal
sized_config b (Err e) = refuse b.at Config
sized_config b (Ok r) = if are_obus in_config r.0 then Ok r.0 else refuse b.at Config

abbrev pub config_size : Box → Result (ℕ × List ℕ) FieldFault → Result (List ℕ) BoxRefusal
config_size b (Err e) = refuse b.at Config
config_size b (Ok r) = sized_config b (bytes_at r.0 r.1)

unfoldable pub config_in : Box → List ℕ → Result (List ℕ) BoxRefusal
config_in b p = if not (slice_index p 0 == 1) then refuse b.at Config else config_size b (leb_at (drop 1 p))

unfoldable pub config_at : List ℕ → Box → Result (List ℕ) BoxRefusal
config_at f entry =
    if nat_lt (entry.end - entry.start) 28 then refuse entry.at Config
    else (children f entry 28 >>= λ bs. exactly_one entry.at IACB (filter (either_is IACB IACB) bs) >>= λ b. config_in b (payload f b))
