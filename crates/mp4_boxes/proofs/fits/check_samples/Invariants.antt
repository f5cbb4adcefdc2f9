use Rattle.std.proofs.Common.{◌≡◌, ◌-◌, length, true}
use Rattle.spec_boxes.specs.Spans.{in_file}
use Rattle.spec_boxes.specs.Tracks.{samples_at}
use Rattle.mp4_boxes.specs.Cursors.{spans_left}
use Rattle.mp4_boxes.proofs.fits.check_samples.Given as goal

abbrev pub invariant-loop-at : goal.invariant-loop-at
invariant-loop-at l = record {
  same : l.rest.file.now ≡ l.file;
  within : in_file (length l.file) (spans_left l.rest) ≡ true;
  so_far : samples_at l.file (spans_left l.rest) ≡ samples_at l.file (spans_left l.cursor);
}

abbrev pub decreases-loop-at : goal.decreases-loop-at
decreases-loop-at l = l.rest.sizes.count - l.rest.sample
