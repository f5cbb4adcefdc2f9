use Rattle.std.proofs.Common.{ap, arith}
use Rattle.spec_boxes.specs.Boxes.{boxes_in}
use Rattle.mp4_boxes.specs.Views.{box_of}
use Rattle.spec_boxes.proofs.Tiles.{tiles_end, tiled_next, boxes_next, no_fault}
use Rattle.mp4_boxes.proofs.boxes.Boxes.next_box.Goals as goal

pub returns-then-self-clause-none : goal.returns-then-self-clause-none
returns-then-self-clause-none c = let s = c.args.self.now in ap boxes_in (tiles_end s.top s.file.now s.at s.end (omega (arith, c.if-self.true)))

pub invariant_of-self-clause-tiled : goal.invariant_of-self-clause-tiled
invariant_of-self-clause-tiled c =
    let s = c.args.self.now in
    tiled_next s.top s.file.now s.at s.end (box_of c.in-Ok.view) (omega (arith, s.in_order, c.if-self.false)) c.in-Ok.ensures.exact s.tiled

pub returns-in-Ok-clause-boxes : goal.returns-in-Ok-clause-boxes
returns-in-Ok-clause-boxes c =
    let s = c.args.self.now in
    boxes_next s.top s.file.now s.at s.end (box_of c.in-Ok.view) (omega (arith, s.in_order, c.if-self.false)) c.in-Ok.ensures.exact s.tiled

pub returns-in-Err-clause-none : goal.returns-in-Err-clause-none
returns-in-Err-clause-none c =
    let s = c.args.self.now in
    absurd (no_fault s.top s.file.now s.at s.end c.in-Err.field-0 (omega (arith, s.in_order, c.if-self.false)) c.in-Err.ensures.exact s.tiled)
