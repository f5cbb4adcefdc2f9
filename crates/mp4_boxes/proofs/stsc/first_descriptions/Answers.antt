use Rattle.std.proofs.Common.{◌≡◌, ◌+◌, ◌*◌, sym, arith, ◌∙◌}
use Rattle.spec_boxes.specs.Bytes.{word_at}
use Rattle.spec_boxes.proofs.Rows.{first_next}
use Rattle.mp4_boxes.proofs.stsc.first_descriptions.Goals as goal

pub loop-i-preserved : goal.loop-i-preserved
loop-i-preserved c =
    let q : 16 + 12 * c.loop-i.i ≡ 8 + 12 * c.loop-i.i + 8 = omega arith in
    let one : word_at c.args.bytes.now (8 + 12 * c.loop-i.i + 8) ≡ 1 = rw (← q) (omega (arith, c.read_word.ensures)) in
    sym (first_next c.args.count c.args.bytes.now 8 c.loop-i.i c.loop-i-test.true one) ∙ c.loop-i.invariant
