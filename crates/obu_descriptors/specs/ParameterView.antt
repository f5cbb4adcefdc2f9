-- The fields that a parameter of an element stands for.
use Rattle.spec_descriptors.specs.AudioElement.{ParameterFields, Demixing, ReconGain, Extension}
use Rattle.obu_descriptors.specs.declared.parameter.Param.{Param}
use Rattle.obu_descriptors.specs.declared.parameter.Param.TheVariants.{Demix, Recon, Other}
use Rattle.obu_timing.specs.TimingView.{view_timing}

abbrev pub view_param : Param → ParameterFields
view_param (Demix timing mode weight) = Demixing (view_timing timing) mode weight
view_param (Recon timing) = ReconGain (view_timing timing)
view_param (Other kind bytes) = Extension kind bytes.now
