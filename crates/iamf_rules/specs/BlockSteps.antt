-- No definitions: what the calls on the blocks of parameters answer and leave, for the prover.
use Rattle.std.specs.Prelude.{ℕ, ◌+◌, ◌*◌, ◌==◌, max, nat_lt, nat_le, Bool, false, ◌&&◌, if◌then◌else◌, Option, Some, None}
use Rattle.std.specs.Ordering.{nat_cmp}
use Rattle.std.specs.BTreeMap.{BTreeMap, get}
use Rattle.spec_blocks.specs.Shape.{Shape, MixGain, Demixing, ReconGain}
use Rattle.spec_rules.specs.Units.{duration_by}
use Rattle.iamf_rules.specs.declared.blocks.BlockSlot.{BlockSlot}
use Rattle.iamf_rules.specs.declared.blocks.UnitTime.{UnitTime}

abbrev pub no_block : BlockSlot
no_block = record { units = 0; end = 0 }

abbrev pub slot_or_none : Option BlockSlot → BlockSlot
slot_or_none None = no_block
slot_or_none (Some slot) = slot

abbrev pub slot_at : BTreeMap ℕ BlockSlot → ℕ → BlockSlot
slot_at slots id = slot_or_none (get nat_cmp slots id)

abbrev pub unit_start : UnitTime → ℕ
unit_start time = time.number * time.frame_length

abbrev pub unit_end : UnitTime → ℕ
unit_end time = (time.number + 1) * time.frame_length

abbrev pub is_late_of : Option Shape → BlockSlot → UnitTime → Bool
is_late_of None slot time = false
is_late_of (Some (MixGain rate fixed)) slot time = rate == time.rate && nat_le (unit_end time) (max (unit_start time) slot.end)
is_late_of (Some (Demixing rate fixed)) slot time = nat_lt time.number slot.units
is_late_of (Some (ReconGain rate fixed layers flags)) slot time = nat_lt time.number slot.units

abbrev pub block_end_of : Option Shape → BlockSlot → Option ℕ → UnitTime → ℕ
block_end_of None slot own time = slot.end
block_end_of (Some (MixGain rate fixed)) slot own time =
    if rate == time.rate then max (unit_start time) slot.end + duration_by (Some (MixGain rate fixed)) own else slot.end
block_end_of (Some (Demixing rate fixed)) slot own time = slot.end
block_end_of (Some (ReconGain rate fixed layers flags)) slot own time = slot.end

abbrev pub with_block : BlockSlot → Option Shape → Option ℕ → UnitTime → BlockSlot
with_block slot shape own time = record { units = time.number + 1; end = block_end_of shape slot own time }
