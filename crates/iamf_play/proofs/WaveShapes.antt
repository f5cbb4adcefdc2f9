-- The WAV file of a plan has a shape that is written.
use Rattle.std.proofs.Common.{◌≡◌, ◌<◌, ◌≤◌, ◌^◌, ℕ, false}
use Rattle.std.specs.Prelude.{None, nat_le}
use Rattle.std.proofs.lemmas.Bool.{leb-false}
use Rattle.spec_waves.specs.Wave.{IsShape, riff_size}
use Rattle.spec_play.specs.declared.fault.PlayFault.TheVariants.{WavTooLong}
use Rattle.spec_play.specs.Mixes.{Rendition}
use Rattle.spec_play.specs.Waves.{wave_shape}
use Rattle.spec_play.specs.Selection.{tests, rendition_fault}
use Rattle.spec_play.specs.Laws.{IsPlayable}
use Rattle.spec_play.proofs.Tests.{passes, all_pass}
use Rattle.iamf_select.specs.PlanView.{PlanValue, IsSelected}
use Rattle.iamf_play.proofs.Renditions.{low_rate, some_depth}

under : (n m : ℕ) → nat_le m n ≡ false → n < m
under n m e = leb-false m n e

fits : (r : Rendition) → rendition_fault r ≡ None → riff_size (wave_shape r) < 2 ^ 32
unfolding rendition_fault
fits r e =
    let row = all_pass (tests r) e in
    under (riff_size (wave_shape r)) (2 ^ 32) (passes (nat_le (2 ^ 32) (riff_size (wave_shape r))) WavTooLong row.1.1.1.1.1.1.1.1.1.1.0)

pub shape_written : (p : PlanValue) (r : Rendition) → IsSelected p r → IsPlayable r → 1 ≤ (wave_shape r).channels → (wave_shape r).channels ≤ 225 → IsShape (wave_shape r)
shape_written p r is playable some few = record {
  some = some;
  few = few;
  depth = some_depth p.sequence.bytes p.sequence.entries p.mix p.target r is.read is.heard_is;
  rate = low_rate p.sequence.bytes p.sequence.entries p.mix p.target r is.read is.heard_is;
  small = fits r playable.selected;
}
