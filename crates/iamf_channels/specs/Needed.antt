-- Which coded channels of an element are needed for a target. Coded samples stand layer after layer, so they are the first ones.
use Rattle.std.specs.Prelude.{ℕ, List, [], length, unwrap_or}
use Rattle.spec_layouts.specs.Layouts.{channels}
use Rattle.spec_descriptors.specs.AudioElement.{ConfigFields, substream_channels_of, coded_channels_of}
use Rattle.spec_play.specs.declared.target.Target.{Target}
use Rattle.spec_play.specs.declared.target.Target.TheVariants as target

-- How many coded channels are needed: as many as the layout has, which the layers up to its own transmit, or all of a scene.
abbrev pub needed : Target → ConfigFields → ℕ
needed (target.Layer layout) config = length (channels layout)
needed target.Scene config = unwrap_or (coded_channels_of config) 0

-- the channels of each substream; there are none of an element whose channels are not known
abbrev pub stream_channels : ConfigFields → List ℕ
stream_channels config = unwrap_or (substream_channels_of config) []
