-- The fields that a mix gain stands for.
use Rattle.spec_descriptors.specs.MixGain.{MixGainFields}
use Rattle.obu_timing.specs.TimingView.{view_timing}
use Rattle.obu_mix_elements.specs.declared.mix_gain.MixGain.{MixGain}

abbrev pub view_mix_gain : MixGain → MixGainFields
view_mix_gain g = record { definition = view_timing g.timing; default_mix_gain = g.gain }
