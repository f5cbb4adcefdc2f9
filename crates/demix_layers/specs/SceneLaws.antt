-- What valid audio elements say of their ambisonics configurations.
use Rattle.std.specs.Prelude.{ℕ, ◌≡◌}
use Rattle.spec_syntax.specs.Payload.{IsValid}
use Rattle.spec_descriptors.specs.Ambisonics.{AmbisonicsFields}
use Rattle.spec_descriptors.specs.AudioElement.{Ambisonics, AudioElementFields, audio_element}
use Rattle.spec_descriptors.specs.ElementFields.{audio_element_fields}
use Rattle.spec_demix.specs.Scenes.{IsWhole}

-- its mapping has a substream or silence for each output, or its matrix a coefficient for each channel and output
abbrev pub ValidAreWhole : Type 0
ValidAreWhole = (frame_length : ℕ) (element : AudioElementFields) (config : AmbisonicsFields) → IsValid (audio_element frame_length) audio_element_fields element → element.config ≡ Ambisonics config → IsWhole config
