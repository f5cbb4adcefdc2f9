-- What an ambisonics configuration of the descriptors says of its outputs.
use Rattle.std.specs.Prelude.{ℕ, ◌≡◌, ◌<◌, List, ℤ, length}
use Rattle.spec_descriptors.specs.Ambisonics.{AmbisonicsFields}
use Rattle.spec_descriptors.specs.Ambisonics as fields
use Rattle.spec_demix.specs.declared.Fraction.{Fraction}
use Rattle.spec_demix.specs.Scenes.{IsWhole, IsScene, coded_of, outputs_of}
use Rattle.obu_element_config.specs.declared.config.ElementConfig.{ElementConfig}
use Rattle.obu_element_config.specs.declared.config.ElementConfig.TheVariants.{Scalable, Mono, Projection, Other}

-- these fields are whole, have an output c and so many coded channels
pub record HasOutput (config : AmbisonicsFields) (channels c : ℕ) : Type 0 where
  pub whole : IsWhole config
  pub output : c < outputs_of config
  pub counted : channels ≡ coded_of config

-- a configuration of an element with so many coded channels is ambisonics with an output c
abbrev pub IsPlayed : ElementConfig → ℕ → ℕ → Type 0
IsPlayed (Scalable layers) channels c = ⊥
IsPlayed (Mono outputs mapping) channels c = HasOutput (fields.Mono outputs channels mapping.now) channels c
IsPlayed (Projection outputs substreams coupled matrix) channels c = HasOutput (fields.Projection outputs substreams coupled matrix.now) channels c
IsPlayed (Other kind bytes) channels c = ⊥

-- a fraction is output c of it
abbrev pub IsOutput : ElementConfig → List ℤ → ℕ → Fraction → Type 0
IsOutput (Scalable layers) coded c f = Unit {0}
IsOutput (Mono outputs mapping) coded c f = IsScene (fields.Mono outputs (length coded) mapping.now) coded c f
IsOutput (Projection outputs substreams coupled matrix) coded c f = IsScene (fields.Projection outputs substreams coupled matrix.now) coded c f
IsOutput (Other kind bytes) coded c f = Unit {0}
