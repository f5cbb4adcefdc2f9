-- What is asked of layers whose channels are counted.
use Rattle.std.specs.Prelude.{◌≤◌, List, [], ◌∷◌}
use Rattle.spec_descriptors.specs.Layers.{LayerFields}

-- no layer has more coupled substreams than substreams
abbrev pub AreCoupled : List LayerFields → Type 0
AreCoupled [] = Unit {0}
AreCoupled (layer ∷ layers) = (layer.coupled_substream_count ≤ layer.substream_count) × AreCoupled layers
