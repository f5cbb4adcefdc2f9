use Rattle.std.proofs.Common.{◌≡◌, ◌≤◌, ◌+◌, ◌*◌, length}
use Rattle.spec_play.specs.Mixes.{Rendition, unit_length, unit_of}
use Rattle.obu_mix_elements.specs.MixGainView.{view_mix_gain}
use Rattle.iamf_sequence.specs.UnitView.{IsUnit}
use Rattle.iamf_mixing.specs.Tracks.{IsFilled}
use Rattle.iamf_play.proofs.gains.take_unit.Given as goal

abbrev pub invariant-loop-i : goal.invariant-loop-i
invariant-loop-i l = record {
  place : l.track.block ≡ l.i;
  unit : l.track.unit ≡ l.initial.track.unit;
  end : l.track.end ≤ (l.u + 1) * length l.row;
  filled : (r : Rendition) → unit_length r ≡ length l.row → IsUnit l.unit (unit_of r l.initial.track.unit) → IsFilled r (view_mix_gain l.gain) l.u l.initial.row l.initial.track → IsFilled r (view_mix_gain l.gain) l.u l.row l.track;
}
