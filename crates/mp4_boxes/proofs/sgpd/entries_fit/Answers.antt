use Rattle.std.proofs.Common.{◌≡◌, ◌+◌, ◌≤◌, length, sym, ◌∙◌, arith}
use Rattle.spec_boxes.specs.Bytes.{word_at}
use Rattle.spec_boxes.proofs.Entries.{entries_next}
use Rattle.mp4_boxes.proofs.sgpd.entries_fit.Goals as goal

pub loop-i-preserved : goal.loop-i-preserved
loop-i-preserved c =
    let e : c.loop-i.at + (4 + c.read_word-size.result) ≡ c.loop-i.at + 4 + word_at c.args.bytes.now c.loop-i.at = omega (arith, c.read_word-size.ensures) in
    let room : c.loop-i.at + 4 + word_at c.args.bytes.now c.loop-i.at ≤ length c.args.bytes.now = omega (arith, c.read_word-size.ensures, c.loop-i.invariant.within) in
    record {
      within = omega (arith, e, room);
      so_far = rw e (sym (entries_next c.args.count c.loop-i.i c.loop-i.at c.args.bytes.now c.loop-i-test.true (omega (arith, room)) (omega (arith, c.read_word-size.ensures)) room) ∙ c.loop-i.invariant.so_far);
    }
