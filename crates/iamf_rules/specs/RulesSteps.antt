-- No definitions: what the private calls of the rules answer and leave by the parts of the state, for the prover.
use Rattle.std.specs.Prelude.{◌≡◌, ℕ, ◌+◌, ◌^◌, ◌<◌, max, nat_lt, nat_eq, if◌then◌else◌, List, Option, Some, None, is_some}
use Rattle.std.specs.Option.{option_map}
use Rattle.std.specs.Ordering.{nat_cmp}
use Rattle.std.specs.BTreeMap.{get, btree_map_len}
use Rattle.spec_obu.specs.declared.obu_type.ObuType.{ObuType}
use Rattle.spec_obu.specs.declared.obu_type.ObuType.TheVariants as obu_type
use Rattle.spec_obu.specs.declared.trim.Trim.{Trim}
use Rattle.spec_values.specs.declared.fault.Fault.{Fault}
use Rattle.spec_values.specs.declared.fault.Fault.TheVariants.{UnitFrame, BlockTime}
use Rattle.spec_values.specs.declared.fault.Fault.TheVariants as fault
use Rattle.iamf_rules.specs.declared.substreams.Slot.{Slot}
use Rattle.iamf_rules.specs.declared.blocks.UnitTime.{UnitTime}
use Rattle.iamf_rules.specs.declared.rules.Rules.{Rules}
use Rattle.spec_blocks.specs.Shape.{shape_of}
use Rattle.spec_rules.specs.Rules.{when}
use Rattle.iamf_rules.specs.DescriptorSteps.{length_of, rate_of, whole_fault_of, order_fault_of, header_fault_of, coded_fault_of, raised}
use Rattle.iamf_rules.specs.SlotSteps.{filled}
use Rattle.iamf_rules.specs.UnitSteps.{bad_trim, end_fault_of, IsSmall, begun, with_frame, with_delimiter}
use Rattle.iamf_rules.specs.BlockSteps.{slot_at, unit_start, is_late_of, with_block}

abbrev pub or_else : Option Fault → Option Fault → Option Fault
or_else None fault = fault
or_else (Some fault) _ = Some fault

abbrev pub start_fault_of : Rules → Option Fault
start_fault_of a = if is_some a.unit.delimited then None else whole_fault_of a.descriptors

abbrev pub early_of : Rules → ObuType → Option Fault
early_of a obu_type.SequenceHeader = header_fault_of a.descriptors
early_of a obu_type.CodecConfig = order_fault_of a.descriptors 2
early_of a obu_type.AudioElement = order_fault_of a.descriptors 3
early_of a obu_type.MixPresentation = order_fault_of a.descriptors 4
early_of a obu_type.ParameterBlock = start_fault_of a
early_of a obu_type.TemporalDelimiter = start_fault_of a
early_of a obu_type.AudioFrame = start_fault_of a
early_of a obu_type.Reserved = None

abbrev pub time_of : Rules → UnitTime
time_of a = record { number = a.unit.number; frame_length = length_of a.descriptors; rate = rate_of a.descriptors }

abbrev pub at_slot : Rules → Option Slot → Trim → List ℕ → Option Fault
at_slot a None trim bytes = Some UnitFrame
at_slot a (Some slot) trim bytes =
    if nat_lt a.unit.number slot.frames then Some UnitFrame
    else if bad_trim a.unit (length_of a.descriptors) trim then Some fault.Trim
    else coded_fault_of a.descriptors slot.channels bytes

abbrev pub frame_fault_of : Rules → ℕ → Trim → List ℕ → Option Fault
frame_fault_of a s trim bytes = at_slot a (get nat_cmp a.substreams.slots s) trim bytes

abbrev pub block_fault_of : Rules → ℕ → Option Fault
block_fault_of a id = when (is_late_of (shape_of a.blocks.definitions id) (slot_at a.blocks.slots id) (time_of a)) BlockTime

abbrev pub last_fault_of : Rules → Option Fault
last_fault_of a = or_else (start_fault_of a) (end_fault_of a.unit (btree_map_len a.substreams.slots))

-- ---- one more OBU

pub record AddsFrame (old new : Rules) (s : ℕ) (trim : Trim) : Type 0 where
  pub rest : new ≡ record old { descriptors = raised old.descriptors 5; substreams = new.substreams; unit = new.unit }
  pub unit_is : old.unit.frames < 2 ^ 62 → IsSmall old.unit → new.unit ≡ with_frame old.unit (btree_map_len old.substreams.slots) (length_of old.descriptors) trim
  pub slots : IsSmall old.unit → (q : ℕ) → get nat_cmp new.substreams.slots q ≡ (if nat_eq q s then filled (get nat_cmp old.substreams.slots q) (old.unit.number + 1) else get nat_cmp old.substreams.slots q)
  pub count : btree_map_len new.substreams.slots ≡ btree_map_len old.substreams.slots

pub record AddsDelimiter (old new : Rules) : Type 0 where
  pub rest : new ≡ record old { descriptors = raised old.descriptors 5; unit = new.unit }
  pub unit_is : IsSmall old.unit → new.unit ≡ with_delimiter old.unit (length_of old.descriptors)

pub record AddsBlock (old new : Rules) (id : ℕ) (own : Option ℕ) : Type 0 where
  pub rest : new ≡ record old { descriptors = raised old.descriptors 5; unit = begun old.unit; blocks = new.blocks }
  pub definitions_are : new.blocks.definitions ≡ old.blocks.definitions
  pub slots : old.unit.number < 2 ^ 62 → max (unit_start (time_of old)) (slot_at old.blocks.slots id).end < 2 ^ 64
      → (q : ℕ) → get nat_cmp new.blocks.slots q ≡ (if nat_eq q id
      then option_map (λ x. with_block x (shape_of old.blocks.definitions id) own (time_of old)) (get nat_cmp old.blocks.slots q)
      else get nat_cmp old.blocks.slots q)
