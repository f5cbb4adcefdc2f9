-- The numbers of temporal units, by the types of their OBUs.
use Rattle.std.specs.Prelude.{ℕ, if◌then◌else◌, List, Option, Some, None}
use Rattle.spec_obu.specs.declared.obu_type.ObuType.{ObuType}
use Rattle.spec_obu.specs.declared.obu_type.ObuType.TheVariants.{ParameterBlock, TemporalDelimiter, AudioFrame}
use Rattle.spec_rules.specs.Role.{Role}
use Rattle.spec_rules.specs.Units.{is_data, unit_after}

-- A delimiter begins the unit that is open after it; a frame and a block are of the one that is open before them.
abbrev pub unit_between : ObuType → ℕ → ℕ → ℕ
unit_between TemporalDelimiter before after = after
unit_between _ before after = before

-- the number, where OBUs of the type belong to temporal units
abbrev pub number_in : ObuType → ℕ → Option ℕ
number_in ParameterBlock unit = Some unit
number_in TemporalDelimiter unit = Some unit
number_in AudioFrame unit = Some unit
number_in _ unit = None

-- the number of an OBU of the type, of the units that are open before and after it
abbrev pub number_between : ObuType → ℕ → ℕ → Option ℕ
number_between obu_type before after = number_in obu_type (unit_between obu_type before after)

-- the number of the unit of an OBU after a list, where it is a data OBU
abbrev pub number_after : List Role → Role → Option ℕ
number_after l o = if is_data o then Some (unit_after l o) else None
