-- What holds of playing, as the contracts of `src/laws.rt` state it.
use Rattle.std.specs.Prelude.{ℕ, ◌+◌, ◌*◌, ◌^◌, ◌==◌, ◌≡◌, ◌≢◌, ◌<◌, ◌≤◌, ◌⊎◌, true, IsTrue, ℤ, pos, ◌-ℤ◌, ◌*ℤ◌, unsigned_abs, List, [], ◌∷◌, map, length, find, Some, None}
use Rattle.std.specs.List.{All}
use Rattle.spec_layouts.specs.declared.Layout.TheVariants.{Binaural}
use Rattle.spec_layouts.specs.Steps.{IsChain}
use Rattle.spec_samples.specs.Lpcm.{frame_bytes, is_depth}
use Rattle.spec_descriptors.specs.CodecConfig.{CodingFields, Lpcm, Flac, CodecConfigFields}
use Rattle.spec_descriptors.specs.AudioElement.{ConfigFields, Scalable, AudioElementFields, substream_channels_of}
use Rattle.spec_flac.specs.declared.shape.FlacShape.{FlacShape}
use Rattle.spec_flac.specs.Frame.{IsFrame}
use Rattle.spec_demix.specs.Floor.{unit}
use Rattle.spec_demix.specs.ExactWalk.{Quotient}
use Rattle.spec_values.specs.Value.{ObuValue}
use Rattle.spec_rules.specs.Descriptors.{pairs_in}
use Rattle.spec_rules.specs.Units.{are_apart}
use Rattle.spec_rules.specs.Rules.{flac_shape}
use Rattle.spec_sequence.specs.ValueRole.{role_of_codec}
use Rattle.spec_sequence.specs.Parts.{FrameValue, UnitValue, first_trim, codec_configs}
use Rattle.spec_sequence.specs.Reading.{Reads}
use Rattle.spec_play.specs.declared.target.Target.{Target}
use Rattle.spec_play.specs.declared.target.Target.TheVariants as target
use Rattle.spec_play.specs.Mixes.{MixedElement, Rendition, rendition_of, codec_of, unit_length, unit_of}
use Rattle.spec_play.specs.CodedSamples.{flac_rows}
use Rattle.spec_play.specs.Waves.{wave_shape}
use Rattle.spec_play.specs.Selection.{rendition_fault, play_fault}
use Rattle.spec_play.specs.Exact.{Place, IsExact}
use Rattle.spec_play.specs.FixedMix.{fixed_mix}
use Rattle.spec_play.specs.Playing.{PlaysRendition, fixed_wave}

-- binaural has no loudspeakers
abbrev pub IsHearable : Target → Type 0
IsHearable played = played ≢ target.Layer Binaural

-- the layers of an element are an allowed chain
abbrev pub HasChain : ConfigFields → Type 0
HasChain (Scalable layers) = IsChain (map (λ layer. layer.loudspeaker_layout) layers)
HasChain _ = Unit {0}

abbrev pub HaveChains : List MixedElement → Type 0
HaveChains [] = Unit {0}
HaveChains (m ∷ ms) = HasChain m.element.config × HaveChains ms

-- the rendition is played
pub record IsPlayable (r : Rendition) : Type 0 where
  pub hearable : IsHearable r.target
  pub chains : HaveChains r.elements
  pub selected : rendition_fault r ≡ None

-- a place in the WAV file
pub record IsPlace (r : Rendition) (place : Place) : Type 0 where
  pub in_unit : place.unit < length r.units
  pub in_wave : place.channel < (wave_shape r).channels

-- the fixed-point mix differs from the exact value by less than 2^22 units, which is less than 1/16
abbrev pub FixedMixIsNear : Type 0
FixedMixIsNear = (r : Rendition) (place : Place) (q : Quotient) → IsPlayable r → IsPlace r place → IsExact r place q
    → unsigned_abs (fixed_mix r place *ℤ pos q.bottom -ℤ pos unit *ℤ q.top) < 2 ^ 22 * q.bottom

-- the header, the bytes of the units and the pad together play the mix
abbrev pub FixedWavePlays : Type 0
FixedWavePlays = (r : Rendition) → IsPlayable r → PlaysRendition r (fixed_wave r)

-- a mix of a sequence is played where the selection has no fault
abbrev pub SelectedIsPlayable : Type 0
SelectedIsPlayable = (bytes : List ℕ) (s : List ObuValue) (mix : ℕ) (played : Target) → Reads bytes s → IsHearable played → play_fault s mix played ≡ None
    → (r : Rendition) × (rendition_of s mix played ≡ Some r) × IsPlayable r

-- each sample of a played rendition has an exact value
abbrev pub SomeExact : Type 0
SomeExact = (r : Rendition) (place : Place) → IsPlayable r → IsPlace r place → (q : Quotient) × IsExact r place q

-- the rows of samples of a FLAC frame are its rows
abbrev pub RowsAreOfFrame : Type 0
RowsAreOfFrame = (shape : FlacShape) (bytes : List ℕ) (rows : List (List ℤ)) → IsFrame shape bytes rows → flac_rows shape bytes ≡ rows

-- ---- the frames of a sequence's units

-- the bytes are those of one frame's samples of so many channels
abbrev pub IsCodedBy : CodecConfigFields → (channels : ℕ) → List ℕ → Type 0
IsCodedBy codec channels bytes = by codec.coding
  where
    by : CodingFields → Type 0
    by (Lpcm is_little depth rate) = length bytes ≡ frame_bytes codec.num_samples_per_frame channels depth
    by (Flac info others) = (rows : List (List ℤ)) × IsFrame (flac_shape (role_of_codec codec) channels) bytes rows

-- the unit has a coded frame of the substream, which has one channel or two
pub record HasFrame (codec : CodecConfigFields) (unit : UnitValue) (stream : ℕ × ℕ) : Type 0 where
  pub few : (stream.1 ≡ 1) ⊎ (stream.1 ≡ 2)
  pub frame : FrameValue
  pub found : find (λ f. f.substream == stream.0) unit.frames ≡ Some frame
  pub coded : IsCodedBy codec stream.1 frame.bytes

-- of an element whose channels are known a frame of each substream
abbrev pub HasFramesOf : CodecConfigFields → UnitValue → AudioElementFields → Type 0
HasFramesOf codec unit element = All (HasFrame codec unit) (pairs_in element.audio_substream_ids (substream_channels_of element.config))

-- A unit has one frame of each substream that is played, of samples of a depth that there is. All its frames are trimmed
-- alike, by no more than they have.
pub record HasWholeFrames (r : Rendition) (u : ℕ) : Type 0 where
  pub depth : IsTrue (is_depth (codec_of r).depth)
  pub frames : All (λ m. HasFramesOf r.codec (unit_of r u) m.element) r.elements
  pub apart : are_apart (map (λ f. f.substream) (unit_of r u).frames) ≡ true
  pub trims : All (λ f. f.trim ≡ first_trim (unit_of r u).frames) (unit_of r u).frames
  pub within : (first_trim (unit_of r u).frames).start + (first_trim (unit_of r u).frames).end ≤ unit_length r

-- the frames of each unit of a sequence are decoded without a fault
abbrev pub FramesAreWhole : Type 0
FramesAreWhole = (bytes : List ℕ) (s : List ObuValue) (mix : ℕ) (played : Target) (r : Rendition) (u : ℕ) → Reads bytes s → rendition_of s mix played ≡ Some r
    → u < length r.units → HasWholeFrames r u

-- and by the one codec config
abbrev pub OneCodecConfig : Type 0
OneCodecConfig = (bytes : List ℕ) (s : List ObuValue) (mix : ℕ) (played : Target) (r : Rendition) → Reads bytes s → rendition_of s mix played ≡ Some r → codec_configs s ≡ r.codec ∷ []
