-- The fields that a configuration stands for in an element of so many substreams.
use Rattle.std.specs.Prelude.{ℕ, map}
use Rattle.spec_descriptors.specs.Ambisonics as ambisonics
use Rattle.spec_descriptors.specs.AudioElement.{ConfigFields}
use Rattle.spec_descriptors.specs.AudioElement as fields
use Rattle.obu_element_config.specs.declared.config.ElementConfig.{ElementConfig}
use Rattle.obu_element_config.specs.declared.config.ElementConfig.TheVariants.{Scalable, Mono, Projection, Other}
use Rattle.obu_element_config.specs.LayerView.{view_layer}

abbrev pub view_config : ℕ → ElementConfig → ConfigFields
view_config count (Scalable layers) = fields.Scalable (map view_layer layers.items)
view_config count (Mono outputs mapping) = fields.Ambisonics (ambisonics.Mono outputs count mapping.now)
view_config count (Projection outputs substreams coupled matrix) = fields.Ambisonics (ambisonics.Projection outputs substreams coupled matrix.now)
view_config count (Other kind bytes) = fields.Other kind bytes.now
