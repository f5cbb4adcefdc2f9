-- The WAV files that play a mix: each sample is a whole number within nine sixteenths of the exact value, clipped once.
use Rattle.std.specs.Prelude.{ℕ, ◌+◌, ◌-◌, ◌*◌, ◌≡◌, ◌≤◌, ℤ, pos, ◌-ℤ◌, ◌*ℤ◌, unsigned_abs, List, [], ◌∷◌, ◌++◌, map, length, replicate, Some}
use Rattle.std.specs.List.{AllZip, flat_map, range_with_len}
use Rattle.spec_obu.specs.declared.trim.Trim.{Trim}
use Rattle.spec_demix.specs.Rounding.{clipped}
use Rattle.spec_demix.specs.ExactWalk.{Quotient}
use Rattle.spec_waves.specs.Wave.{sample_bytes, header_bytes, pad, wave}
use Rattle.spec_values.specs.Value.{ObuValue}
use Rattle.spec_sequence.specs.Parts.{first_trim}
use Rattle.spec_play.specs.declared.target.Target.{Target}
use Rattle.spec_play.specs.Mixes.{Rendition, rendition_of, codec_of, unit_length, unit_of}
use Rattle.spec_play.specs.Waves.{wave_shape}
use Rattle.spec_play.specs.Exact.{Place, IsExact}
use Rattle.spec_play.specs.FixedMix.{fixed_sample}

-- ---- the samples of a WAV file, in their order

-- the samples that no trim leaves out
abbrev pub kept_samples : ℕ → Trim → List ℕ
kept_samples length trim = range_with_len trim.start (length - (trim.start + trim.end))

abbrev pub places_at : Rendition → ℕ → ℕ → List Place
places_at r u n = map (λ c. record { unit = u; sample = n; channel = c }) (range_with_len 0 (wave_shape r).channels)

-- those of a unit: at each sample each channel
abbrev pub unit_places : Rendition → ℕ → List Place
unit_places r u = flat_map (places_at r u) (kept_samples (unit_length r) (first_trim (unit_of r u).frames))

abbrev pub places : Rendition → List Place
places r = flat_map (unit_places r) (range_with_len 0 (length r.units))

-- ---- which numbers may stand there

-- a whole number is within 9/16 of a fraction
abbrev pub IsNear : ℤ → Quotient → Type 0
IsNear whole q = unsigned_abs (pos 16 *ℤ (whole *ℤ pos q.bottom -ℤ q.top)) ≤ 9 * q.bottom

pub record IsPlayed (r : Rendition) (place : Place) (z : ℤ) : Type 0 where
  pub exact : Quotient
  pub whole : ℤ
  pub exact_is : IsExact r place exact
  pub near : IsNear whole exact
  pub clipped_is : z ≡ clipped (codec_of r).depth whole

pub record PlaysRendition (r : Rendition) (bytes : List ℕ) : Type 0 where
  pub samples : List ℤ
  pub played : AllZip (IsPlayed r) (places r) samples
  pub bytes_are : bytes ≡ wave (wave_shape r) samples

-- the bytes are a WAV file of the mix for the target
pub record Plays (s : List ObuValue) (mix : ℕ) (target : Target) (bytes : List ℕ) : Type 0 where
  pub heard : Rendition
  pub heard_is : rendition_of s mix target ≡ Some heard
  pub plays : PlaysRendition heard bytes

-- ---- the WAV file whose numbers are those of the fixed-point mix

abbrev pub fixed_bytes : Rendition → Place → List ℕ
fixed_bytes r place = sample_bytes (codec_of r).depth (fixed_sample r place)

-- the bytes of a unit
unfoldable pub unit_bytes : Rendition → ℕ → List ℕ
unit_bytes r u = flat_map (fixed_bytes r) (unit_places r u)

-- the header, the bytes of each unit, and the byte that makes their number even
abbrev pub fixed_wave : Rendition → List ℕ
fixed_wave r = header_bytes (wave_shape r) ++ (flat_map (unit_bytes r) (range_with_len 0 (length r.units)) ++ replicate (pad (wave_shape r)) 0)
