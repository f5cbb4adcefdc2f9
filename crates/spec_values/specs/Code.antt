-- The numbers of the refusals.
use Rattle.std.specs.Prelude.{ℕ}
use Rattle.spec_obu.specs.Code as header
use Rattle.spec_descriptors.specs.Code.{descriptor_code, mix_code}
use Rattle.spec_blocks.specs.Code.{block_code}
use Rattle.spec_values.specs.declared.fault.Fault.{Fault}
use Rattle.spec_values.specs.declared.fault.Fault.TheVariants as fault

abbrev pub code_of : Fault → ℕ
code_of (fault.Header f) = header.code_of f
code_of (fault.Descriptor f) = descriptor_code f
code_of (fault.Mix f) = mix_code f
code_of (fault.Block f) = block_code f
code_of (fault.Frame f) = 10
code_of fault.Order = 30
code_of (fault.Repeated id) = 31
code_of (fault.Unknown id) = 32
code_of (fault.ParamClash id) = 33
code_of fault.Redundant = 34
code_of fault.Incomplete = 35
code_of fault.NoMixFits = 36
code_of fault.SecondSequence = 37
code_of fault.UnitFrame = 38
code_of fault.UnitShort = 39
code_of fault.Trim = 40
code_of fault.BlockTime = 41
code_of fault.Delimiter = 42
code_of fault.Lpcm = 43
code_of (fault.Flac f) = 44
