-- The row of the gains of a temporal unit while it is filled.
use Rattle.std.specs.Prelude.{ℕ, Bool, true, false, List}
use Rattle.spec_descriptors.specs.MixGain.{MixGainFields}
use Rattle.spec_play.specs.Mixes.{Rendition}
use Rattle.iamf_mixing.specs.declared.track.GainTrack.{GainTrack}
use Rattle.iamf_mixing.specs.Tracks.{IsOn, IsFilled, HasGains}

-- the row of a unit is filled as far as the track has come, or it is complete before
abbrev pub Took : Bool → Rendition → MixGainFields → (u : ℕ) → List ℕ → GainTrack → Type 0
Took true r gain u row track = IsFilled r gain u row track
Took false r gain u row track = IsOn r gain track × HasGains r gain u row
