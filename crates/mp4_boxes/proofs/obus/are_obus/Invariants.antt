use Rattle.std.proofs.Common.{◌≡◌, ◌≤◌, ◌-◌, length}
use Rattle.spec_boxes.specs.ObuLists.{are_obus}
use Rattle.mp4_boxes.specs.Holding.{may_hold}
use Rattle.spec_boxes.proofs.ObuLists.{rest_are}
use Rattle.mp4_boxes.proofs.obus.are_obus.Given as goal

abbrev pub invariant-loop-at : goal.invariant-loop-at
invariant-loop-at l = (l.at ≤ length l.bytes) × (rest_are (may_hold l.holder) l.bytes l.at ≡ are_obus (may_hold l.holder) l.bytes)

abbrev pub decreases-loop-at : goal.decreases-loop-at
decreases-loop-at l = length l.bytes - l.at
