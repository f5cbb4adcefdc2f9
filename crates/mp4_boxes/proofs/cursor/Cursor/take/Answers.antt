use Rattle.std.proofs.Common.{arith, refl, ◌+◌, ◌≤◌, length}
use Rattle.mp4_boxes.specs.Cursors.{places_left, counts_left}
use Rattle.spec_boxes.proofs.Steps.{take_left, part_len}
use Rattle.mp4_boxes.proofs.cursor.Cursor.take.Goals as goal

pub returns-then-self-end-clause-steps : goal.returns-then-self-end-clause-steps
returns-then-self-end-clause-steps c =
    let s = c.args.self.now in
    (s.place, c.at.result, _, take_left s.place s.left c.at.result _ _ (places_left s) (counts_left s) c.requires.some c.at.ensures, omega arith)

pub returns-then-size-end-clause-steps : goal.returns-then-size-end-clause-steps
returns-then-size-end-clause-steps c =
    let s = c.args.self.now in
    (s.place, c.at.result, _, take_left s.place s.left c.at.result _ _ (places_left s) (counts_left s) c.requires.some c.at.ensures, omega (arith, c.from-size.ensures))

pub returns-clause-steps : goal.returns-clause-steps
returns-clause-steps c =
    let s = c.args.self.now in
    let w : s.place + c.at.result ≤ length s.file.now = omega (arith, c.from-size.ensures) in
    rw (c.from-size.ensures, part_len s.place c.at.result s.file.now w)
    (take_left s.place s.left c.at.result _ _ (places_left s) (counts_left s) c.requires.some c.at.ensures, w, refl)
