-- The fault of a field that cannot be read.
use Rattle.spec_bits.specs.declared.FieldFault.{FieldFault}
use Rattle.spec_flac.specs.declared.fault.FlacFault.{FlacFault}
use Rattle.spec_flac.specs.declared.fault.FlacFault.TheVariants as fault

-- A field of a frame cannot be read exactly where the bits end in it.
abbrev pub short : FieldFault → FlacFault
short _ = fault.Short
