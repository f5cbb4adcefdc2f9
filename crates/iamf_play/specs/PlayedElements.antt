-- The elements of a mix as a player holds them.
use Rattle.std.specs.Prelude.{◌≡◌, ℕ, ◌+◌, ◌<◌, ◌^◌, false, List, length, Some, slice_get}
use Rattle.obu_mix_elements.specs.MixGainView.{view_mix_gain}
use Rattle.spec_play.specs.Mixes.{MixedElement, Rendition, unit_length}
use Rattle.spec_play.specs.Selection.{is_gain_above}
use Rattle.iamf_sequence.specs.SequenceValue.{SequenceValue}
use Rattle.iamf_channels.specs.Heard.{IsHeard}
use Rattle.iamf_mixing.specs.Tracks.{HasGains}
use Rattle.iamf_play.specs.declared.element.PlayedElement.{PlayedElement}
use Rattle.iamf_play.specs.Gains.{IsReady}

-- one of the elements of a rendition, so many units of which were begun
pub record IsPart (s : SequenceValue) (r : Rendition) (m : MixedElement) (u : ℕ) (p : PlayedElement) : Type 0 where
  pub heard : IsHeard s m.element r.target r
  pub channels : p.channels ≡ record { sequence = s; element = m.element; target = r.target; begun = u }
  pub gain : view_mix_gain p.gains.gain.now ≡ m.gain
  pub ready : IsReady r p.gains u
  pub low : is_gain_above r m.gain ≡ false
  pub short : unit_length r < 2 ^ 17

-- the unit begun last is this one, and its gains are there
pub record IsBegun (s : SequenceValue) (r : Rendition) (m : MixedElement) (u : ℕ) (p : PlayedElement) : Type 0 where
  pub part : IsPart s r m (u + 1) p
  pub gains : HasGains r m.gain u p.gains.row.items

-- the elements of a rendition, in their order, each with what is said of it
pub record AreElements (r : Rendition) (Is : MixedElement → PlayedElement → Type 0) (ps : List PlayedElement) : Type 0 where
  pub count : length ps ≡ length r.elements
  pub each : (k : ℕ) (m : MixedElement) (p : PlayedElement) → slice_get r.elements k ≡ Some m → slice_get ps k ≡ Some p → Is m p

abbrev pub AreParts : SequenceValue → Rendition → ℕ → List PlayedElement → Type 0
AreParts s r u ps = AreElements r (λ m p. IsPart s r m u p) ps

abbrev pub AreBegun : SequenceValue → Rendition → ℕ → List PlayedElement → Type 0
AreBegun s r u ps = AreElements r (λ m p. IsBegun s r m u p) ps
