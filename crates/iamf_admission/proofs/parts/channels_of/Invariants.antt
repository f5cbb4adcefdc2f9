use Rattle.std.proofs.Common.{◌≡◌, take, length}
use Rattle.spec_descriptors.specs.AudioElement.{substream_channels_of}
use Rattle.obu_element_config.specs.ConfigView.{view_config}
use Rattle.iamf_admission.proofs.Channels.{known_channels}
use Rattle.iamf_admission.proofs.parts.channels_of.Given as goal

abbrev pub invariant-loop-i : goal.invariant-loop-i
invariant-loop-i l = l.channels.items ≡ take l.i (known_channels (substream_channels_of (view_config (length l.element.substreams.items) l.element.config)))
