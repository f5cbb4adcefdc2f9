-- The fields that an ambisonics configuration stands for.
use Rattle.spec_descriptors.specs.Ambisonics.{AmbisonicsFields}
use Rattle.spec_descriptors.specs.Ambisonics as fields
use Rattle.obu_element_config.specs.declared.ambisonics.Ambisonics.{Ambisonics}
use Rattle.obu_element_config.specs.declared.ambisonics.Ambisonics.TheVariants.{Mono, Projection}

abbrev pub view_ambisonics : Ambisonics → AmbisonicsFields
view_ambisonics (Mono outputs substreams mapping) = fields.Mono outputs substreams mapping.now
view_ambisonics (Projection outputs substreams coupled matrix) = fields.Projection outputs substreams coupled matrix.now
