use Rattle.std.proofs.Common.{◌≡◌, ◌<◌, ◌≤◌, ◌+◌, ◌*◌, length}
use Rattle.spec_sequence.specs.Parts.{temporal_units}
use Rattle.spec_sequence.specs.Reading.{values_of}
use Rattle.spec_play.specs.Mixes.{Rendition, unit_length}
use Rattle.obu_mix_elements.specs.MixGainView.{view_mix_gain}
use Rattle.iamf_mixing.specs.Tracks.{IsOn, IsFilled}
use Rattle.iamf_play.proofs.gains.fill_row.Given as goal

abbrev pub invariant-loop-v : goal.invariant-loop-v
invariant-loop-v l = record {
  place : l.track.unit ≡ l.v;
  past : l.u < l.v → l.track.block ≡ 0;
  end : l.track.end ≤ (l.u + 1) * length l.row;
  filled : (r : Rendition) → unit_length r ≡ length l.row → r.units ≡ temporal_units (values_of l.sequence.entries) → IsOn r (view_mix_gain l.gain) l.initial.track → IsFilled r (view_mix_gain l.gain) l.u l.row l.track;
}
