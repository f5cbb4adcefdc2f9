use Rattle.std.proofs.Common.{length, ◌≡◌}
use Rattle.mp4_boxes.specs.Views.{file_of, boxes_of}
use Rattle.spec_boxes.specs.Paths.{audio_in}
use Rattle.mp4_boxes.proofs.path.find_audio.Given as goal

abbrev pub invariant-loop-view : goal.invariant-loop-view
invariant-loop-view l = (file_of l.rest ≡ l.file) × (audio_in l.file (boxes_of l.rest) ≡ audio_in l.file (boxes_of l.in_moov))

abbrev pub decreases-loop-view : goal.decreases-loop-view
decreases-loop-view l = length (boxes_of l.rest)
