-- The gains of a mix gain, as a player comes from one temporal unit to the next.
use Rattle.std.specs.Prelude.{◌≡◌, ℕ, ◌*◌, ◌≤◌, length}
use Rattle.obu_mix_elements.specs.MixGainView.{view_mix_gain}
use Rattle.spec_play.specs.Mixes.{Rendition, unit_length}
use Rattle.iamf_mixing.specs.Tracks.{IsOn}
use Rattle.iamf_play.specs.declared.gains.UnitGains.{UnitGains}

-- so many units were filled, and there is a place for each tick of the next
pub record IsReady (r : Rendition) (g : UnitGains) (u : ℕ) : Type 0 where
  pub on : IsOn r (view_mix_gain g.gain.now) g.track
  pub end : g.track.end ≤ u * unit_length r
  pub unit : g.track.unit ≤ u
  pub long : length g.row.items ≡ unit_length r
