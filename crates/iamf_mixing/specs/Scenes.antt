-- The outputs of an ambisonics configuration of the descriptors in units of 1/2^28.
use Rattle.std.specs.Prelude.{ℕ, ℤ, pos, ◌*ℤ◌, List, length}
use Rattle.spec_descriptors.specs.Ambisonics as fields
use Rattle.spec_descriptors.specs.Ambisonics.{AmbisonicsFields}
use Rattle.spec_demix.specs.Floor.{floor_of, unit}
use Rattle.spec_demix.specs.Scenes.{scene_top, scene_bottom}
use Rattle.obu_element_config.specs.declared.config.ElementConfig.{ElementConfig}
use Rattle.obu_element_config.specs.declared.config.ElementConfig.TheVariants.{Scalable, Mono, Projection, Other}

-- output c, rounded down
abbrev pub output_units : AmbisonicsFields → List ℤ → ℕ → ℤ
output_units config coded c = floor_of (pos unit *ℤ scene_top config coded c) (scene_bottom config)

-- that of an element with so many coded channels; there is none of a configuration that is not ambisonics
abbrev pub scene_units : ElementConfig → List ℤ → ℕ → ℤ
scene_units (Scalable layers) coded c = pos 0
scene_units (Mono outputs mapping) coded c = output_units (fields.Mono outputs (length coded) mapping.now) coded c
scene_units (Projection outputs substreams coupled matrix) coded c = output_units (fields.Projection outputs substreams coupled matrix.now) coded c
scene_units (Other kind bytes) coded c = pos 0
