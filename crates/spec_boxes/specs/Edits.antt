-- The edit list of a track (ISO/IEC 14496-12, "Edit List Box"). Its shape is tested, and nothing else of it is used.
use Rattle.std.specs.Prelude.{ℕ, ◌+◌, ◌*◌, ◌==◌, nat_lt, if◌then◌else◌, List, length, find, slice_index, Option, Some, None, Result, Ok}
use Rattle.spec_bits.specs.ByteReading.{◌>>=◌}
use Rattle.spec_boxes.specs.declared.kinds.TheConstants.{EDTS, ELST}
use Rattle.spec_boxes.specs.declared.fault.BoxFault.TheVariants.{Table, Version}
use Rattle.spec_boxes.specs.declared.fault.BoxRefusal.{BoxRefusal}
use Rattle.spec_boxes.specs.Bytes.{word_at}
use Rattle.spec_boxes.specs.Boxes.{Box, refuse}
use Rattle.spec_boxes.specs.Parts.{kind_is, children}
use Rattle.spec_boxes.specs.Tables.{payload}

-- an edit list whose payload is p: its version is 0 or 1, and its entries of 12 or 20 bytes are there
abbrev pub entries_read : Box → List ℕ → Result (Unit {0}) BoxRefusal
entries_read b p =
    if nat_lt (length p) 4 then refuse b.at (Table ELST)
    else if nat_lt 1 (slice_index p 0) then refuse b.at (Version ELST)
    else if nat_lt (length p) 8 then refuse b.at (Table ELST)
    else if nat_lt (length p) (8 + (if slice_index p 0 == 1 then 20 else 12) * word_at p 4) then refuse b.at (Table ELST)
    else Ok tt

abbrev pub elst_reads : List ℕ → Option Box → Result (Unit {0}) BoxRefusal
elst_reads f None = Ok tt
elst_reads f (Some b) = entries_read b (payload f b)

abbrev pub edts_reads : List ℕ → Option Box → Result (Unit {0}) BoxRefusal
edts_reads f None = Ok tt
edts_reads f (Some b) = children f b 0 >>= λ bs. elst_reads f (find (kind_is ELST) bs)

unfoldable pub edits_at : List ℕ → List Box → Result (Unit {0}) BoxRefusal
edits_at f in_trak = edts_reads f (find (kind_is EDTS) in_trak)
