-- The mix of a temporal unit, in units of 1/2^28.
use Rattle.std.specs.Prelude.{◌≡◌, ℕ, ◌+◌, ◌-◌, ◌*◌, ◌<◌, List, ℤ, map, length}
use Rattle.std.specs.List.{flat_map, range_with_len}
use Rattle.spec_obu.specs.declared.trim.Trim.{Trim}
use Rattle.spec_sequence.specs.Parts.{first_trim}
use Rattle.spec_play.specs.Mixes.{Rendition, unit_length, unit_of}
use Rattle.spec_play.specs.Waves.{wave_shape}
use Rattle.spec_play.specs.GainsOverTime.{gain_at}
use Rattle.spec_play.specs.FixedMix.{fixed_mix}
use Rattle.spec_play.specs.Exact.{Place}
use Rattle.spec_play.specs.Playing.{places_at}
use Rattle.spec_play.specs.Laws.{IsPlayable}
use Rattle.iamf_sequence.specs.SequenceValue.{SequenceValue}
use Rattle.iamf_play.specs.declared.element.PlayedElement.{PlayedElement}
use Rattle.iamf_play.specs.PlayedElements.{AreBegun}

-- the values of each channel at tick n of unit u
abbrev pub mixed_at : Rendition → (u n : ℕ) → List ℤ
mixed_at r u n = map (fixed_mix r) (places_at r u n)

-- those of so many ticks from one on
abbrev pub mixed_from : Rendition → (u first count : ℕ) → List ℤ
mixed_from r u first count = flat_map (mixed_at r u) (range_with_len first count)

-- how many samples of a channel are kept of unit u
abbrev pub kept_by : ℕ → Trim → ℕ
kept_by length trim = length - (trim.start + trim.end)

abbrev pub kept_of : Rendition → ℕ → ℕ
kept_of r u = kept_by (unit_length r) (first_trim (unit_of r u).frames)

abbrev pub first_of : Rendition → ℕ → ℕ
first_of r u = (first_trim (unit_of r u).frames).start

abbrev pub place : (u n c : ℕ) → Place
place u n c = record { unit = u; sample = n; channel = c }

-- the elements are at unit u, and there is a sum for each channel
pub record IsAt (s : SequenceValue) (r : Rendition) (u channels : ℕ) (ps : List PlayedElement) : Type 0 where
  pub playable : IsPlayable r
  pub elements : AreBegun s r u ps
  pub unit : u < length r.units
  pub wide : channels ≡ (wave_shape r).channels

-- so the output gain at a tick
pub record IsTick (s : SequenceValue) (r : Rendition) (u n gain channels : ℕ) (ps : List PlayedElement) : Type 0 where
  pub at : IsAt s r u channels ps
  pub tick : n < unit_length r
  pub output : gain ≡ gain_at r r.output (u * unit_length r + n)
