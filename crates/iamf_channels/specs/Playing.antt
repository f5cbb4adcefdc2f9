-- What is kept of an element while it is played.
use Rattle.std.specs.Prelude.{◌≡◌, ◌≤◌, ◌<◌, ◌+◌, ℕ, ℤ, List, map, sum_by, take, length, IsTrue, Option, Some, None, slice_index_or}
use Rattle.spec_samples.specs.Lpcm.{is_depth}
use Rattle.spec_descriptors.specs.AudioElement.{ConfigFields, Scalable, Ambisonics, AudioElementFields}
use Rattle.spec_demix.specs.declared.DemixLayer.{DemixLayer}
use Rattle.spec_demix.specs.Elements.{demix_layers_of}
use Rattle.spec_demix.specs.Scenes.{outputs_of}
use Rattle.spec_play.specs.declared.target.Target.{Target}
use Rattle.spec_play.specs.declared.target.Target.TheVariants as target
use Rattle.spec_play.specs.Mixes.{Rendition, codec_of, unit_length, unit_of}
use Rattle.spec_play.specs.UsedLayers.{layers_up_to}
use Rattle.spec_play.specs.Laws.{HasFrame}
use Rattle.iamf_bits.specs.Rows.{Rows}
use Rattle.iamf_channels.specs.declared.parameters.Demixing.{Demixing}
use Rattle.iamf_channels.specs.Heard.{ChannelsValue, Hears}
use Rattle.iamf_channels.specs.Decoded.{no_rows, Holds}
use Rattle.iamf_channels.specs.Parameters.{HasDemixing, AreSound}
use Rattle.iamf_channels.specs.Needed.{needed, stream_channels}

-- a kernel demixes the used layers of a scalable element; an ambisonics element has none
abbrev pub IsKernelOf : Target → ConfigFields → Option (List DemixLayer) → Type 0
IsKernelOf (target.Layer layout) (Scalable layers) (Some kernel) = kernel ≡ demix_layers_of (layers_up_to layout layers)
IsKernelOf target.Scene (Ambisonics config) None = 0 ≤ outputs_of config
IsKernelOf _ _ _ = ⊥

-- the first substreams, as many as are needed, have rows for their channels, as long as a unit
pub record HasRows (r : Rendition) (played : Target) (element : AudioElementFields) (planes : List Rows) : Type 0 where
  pub count : length planes ≤ length element.audio_substream_ids
  pub channels : map (λ (p : Rows). p.channels) planes ≡ take (length planes) (stream_channels element.config)
  pub enough : needed played element.config ≤ sum_by (λ (p : Rows). p.channels) planes
  pub lengths : (i : ℕ) → i < length planes → (slice_index_or planes i no_rows).length ≡ unit_length r

-- each unit has a whole frame of each of those substreams
abbrev pub HaveFrames : Rendition → AudioElementFields → List Rows → Type 0
HaveFrames r element planes =
    (u i : ℕ) → u < length r.units → i < length planes → HasFrame r.codec (unit_of r u) (slice_index_or element.audio_substream_ids i 0, (slice_index_or planes i no_rows).channels)

-- the rows hold the frames of a unit
abbrev pub HoldUnit : Rendition → AudioElementFields → List Rows → ℕ → Type 0
HoldUnit r element planes u = (i : ℕ) → i < length planes → Holds r.codec (unit_of r u) (slice_index_or element.audio_substream_ids i 0) (slice_index_or planes i no_rows)

-- the unit begun last is one of the rendition's, and the rows hold it
pub record HasBegun (r : Rendition) (element : AudioElementFields) (planes : List Rows) (u : ℕ) : Type 0 where
  pub there : u < length r.units
  pub held : HoldUnit r element planes u

pub record IsPlaying (value : ChannelsValue) (kernel : Option (List DemixLayer)) (d : Demixing) (planes : List Rows) (coded : List ℤ) : Type 0 where
  pub heard : Rendition
  pub is_heard : Hears value heard
  pub kernel_is : IsKernelOf value.target value.element.config kernel
  pub demixing : HasDemixing heard value.element value.begun d
  pub sound : AreSound d
  pub rows : HasRows heard value.target value.element planes
  pub depth : IsTrue (is_depth (codec_of heard).depth)
  pub frames : HaveFrames heard value.element planes
  pub last : (u : ℕ) → value.begun ≡ u + 1 → HasBegun heard value.element planes u
  pub row : length coded ≡ sum_by (λ (p : Rows). p.channels) planes
