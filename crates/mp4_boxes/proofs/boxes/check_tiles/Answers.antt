use Rattle.mp4_boxes.specs.Views.{box_of}
use Rattle.spec_boxes.proofs.Tiles.{decides_start, decides_next, tiles_fault, is_read, read_end}
use Rattle.mp4_boxes.proofs.boxes.check_tiles.Goals as goal

pub loop-at-init : goal.loop-at-init
loop-at-init c = (c.requires.in_order, decides_start _)

pub loop-at-preserved : goal.loop-at-preserved
loop-at-preserved c =
    (c.in-Ok.ensures.within, decides_next c.args.top c.args.file.now c.loop-at.at c.args.end (box_of c.in-Ok.view) _ c.loop-at-test.true c.in-Ok.ensures.exact c.loop-at.invariant.1)

pub returns-in-Err : goal.returns-in-Err
returns-in-Err c = c.loop-at.invariant.1.fails c.in-Err.refusal (tiles_fault c.args.top c.args.file.now c.loop-at.at c.args.end c.in-Err.refusal c.loop-at-test.true c.in-Err.ensures.exact)

pub returns : goal.returns
returns c = is_read _ (c.loop-at.invariant.1.stands (read_end c.args.top c.args.file.now c.loop-at.at c.args.end c.loop-at-test.false))
