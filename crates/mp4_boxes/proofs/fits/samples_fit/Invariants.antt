use Rattle.std.proofs.Common.{◌≡◌, ◌-◌, length}
use Rattle.spec_boxes.specs.Spans.{fit}
use Rattle.mp4_boxes.specs.Cursors.{spans_left}
use Rattle.mp4_boxes.proofs.fits.samples_fit.Given as goal

abbrev pub invariant-loop-bytes : goal.invariant-loop-bytes
invariant-loop-bytes l = (l.rest.file.now ≡ l.file) × (fit (length l.file) l.room (spans_left l.rest) ≡ fit (length l.file) (length l.file) (spans_left l.cursor))

abbrev pub decreases-loop-bytes : goal.decreases-loop-bytes
decreases-loop-bytes l = l.rest.sizes.count - l.rest.sample
