-- The numbers of the refusals.
use Rattle.std.specs.Prelude.{ℕ}
use Rattle.spec_play.specs.declared.fault.PlayFault.{PlayFault}
use Rattle.spec_play.specs.declared.fault.PlayFault.TheVariants as fault

abbrev pub code_of : PlayFault → ℕ
code_of fault.NoMix = 50
code_of fault.MixShape = 51
code_of fault.NoLayer = 52
code_of fault.SceneTarget = 53
code_of fault.UnknownElement = 54
code_of fault.Recon = 55
code_of fault.NoDemix = 56
code_of fault.DemixReserved = 57
code_of fault.ParamRate = 58
code_of fault.Bezier = 59
code_of fault.GainRange = 60
code_of fault.WavTooLong = 61
