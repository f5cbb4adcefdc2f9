-- No definitions: what the calls of the open unit answer and leave by its fields, for the prover.
use Rattle.std.specs.Prelude.{ℕ, ◌+◌, ◌-◌, ◌^◌, ◌<◌, ◌==◌, nat_lt, Bool, true, false, not, ◌&&◌, ◌||◌, if◌then◌else◌, Option, Some, None, is_some}
use Rattle.std.specs.Option.{option_map_or}
use Rattle.spec_obu.specs.declared.trim.Trim.{Trim}
use Rattle.spec_values.specs.declared.fault.Fault.{Fault}
use Rattle.spec_values.specs.declared.fault.Fault.TheVariants.{UnitShort}
use Rattle.spec_values.specs.declared.fault.Fault.TheVariants as fault
use Rattle.iamf_rules.specs.declared.open_unit.OpenUnit.{OpenUnit}

abbrev pub no_unit : OpenUnit
no_unit = record { delimited = None; number = 0; begun = false; frames = 0; trim = None; samples = 0; cut = false }

-- the counts of units and samples are far from the greatest number
pub record IsSmall (a : OpenUnit) : Type 0 where
  pub number : a.number < 2 ^ 62
  pub samples : a.samples < 2 ^ 62

abbrev pub differs : Trim → Option Trim → Bool
differs trim None = false
differs trim (Some other) = not ((other.end == trim.end) && (other.start == trim.start))

abbrev pub bad_trim : OpenUnit → ℕ → Trim → Bool
bad_trim a frame_length trim =
    nat_lt frame_length (trim.start + trim.end) || differs trim a.trim || (nat_lt 0 trim.start && nat_lt 0 a.samples) || a.cut

abbrev pub is_full : OpenUnit → ℕ → Bool
is_full a count = a.frames == count

abbrev pub at_delimiter : Option Bool → Bool → Option Fault
at_delimiter None full = None
at_delimiter (Some false) full = Some fault.Delimiter
at_delimiter (Some true) full = if full then None else Some UnitShort

abbrev pub delimiter_fault_of : OpenUnit → ℕ → Option Fault
delimiter_fault_of a count = at_delimiter a.delimited (is_full a count)

abbrev pub end_fault_of : OpenUnit → ℕ → Option Fault
end_fault_of a count = if a.begun && not (is_full a count) then Some UnitShort else None

abbrev pub kept_of : ℕ → Option Trim → ℕ
kept_of frame_length None = 0
kept_of frame_length (Some trim) = frame_length - (trim.start + trim.end)

abbrev pub cuts_one : Option Trim → Bool
cuts_one None = false
cuts_one (Some trim) = nat_lt 0 trim.end

abbrev pub closed : OpenUnit → ℕ → OpenUnit
closed a frame_length = record a {
  number = a.number + 1;
  begun = false;
  frames = 0;
  trim = None;
  samples = a.samples + kept_of frame_length a.trim;
  cut = a.cut || cuts_one a.trim;
}

abbrev pub is_marked : OpenUnit → Bool
is_marked a = option_map_or (λ d. d) a.delimited false

abbrev pub begun : OpenUnit → OpenUnit
begun a = record a { delimited = Some (is_marked a); begun = true }

-- the open unit once a frame is in it
abbrev pub holding : OpenUnit → Trim → OpenUnit
holding a trim = record (begun a) { frames = a.frames + 1; trim = Some trim }

abbrev pub with_frame : OpenUnit → ℕ → ℕ → Trim → OpenUnit
with_frame a count frame_length trim =
    if not (is_marked a) && is_full (holding a trim) count then closed (holding a trim) frame_length else holding a trim

abbrev pub delimiting : OpenUnit → OpenUnit
delimiting a = record a { delimited = Some true; begun = true }

abbrev pub with_delimiter : OpenUnit → ℕ → OpenUnit
with_delimiter a frame_length = delimiting (if is_some a.delimited then closed a frame_length else a)

-- how many units are begun
abbrev pub units_of : OpenUnit → ℕ
units_of a = if a.begun then a.number + 1 else a.number
