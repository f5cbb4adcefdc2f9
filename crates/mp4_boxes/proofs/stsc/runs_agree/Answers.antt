use Rattle.std.proofs.Common.{◌+◌, sym, arith, ◌∙◌}
use Rattle.spec_boxes.proofs.Rows.{agree_first, agrees_next, fails_empty, product_small}
use Rattle.mp4_boxes.proofs.stsc.runs_agree.Goals as goal

pub loop-i-init : goal.loop-i-init
loop-i-init c =
    record {
      within = c.if-before-chunks.false;
      each_small = omega (arith, c.read_word-each.type_inv);
      small = omega arith;
      verdict = rw (c.read_word-before.ensures, c.read_word-each.ensures) (agree_first c.args.count c.args.chunks c.args.samples c.args.bytes.now (omega (arith, c.if-count-eq0.false))
          (sym c.read_word-before.ensures ∙ c.if-before-ne1.false) (rw c.read_word-before.ensures at c.if-before-chunks.false) (rw (← c.read_word-each.ensures) (omega (arith, c.if-each-eq0.false))));
    }

pub returns-then-next-eq0 : goal.returns-then-next-eq0
returns-then-next-eq0 c =
    sym (fails_empty c.args.count c.args.chunks c.args.samples c.loop-i.total c.loop-i.before c.loop-i.each c.loop-i.i c.args.bytes.now c.loop-i-test.true (sym c.read_word-next.ensures ∙ c.if-next-eq0.true)) ∙ c.loop-i.invariant.verdict

pub overflow_mul-total : goal.overflow_mul-total
overflow_mul-total c = omega (arith, product_small c.from.result c.from-in-loop-i.result (omega (arith, c.from-in-loop-i.ensures, c.loop-i.invariant.each_small)), c.from.ensures, c.read_word-first.type_inv)

pub overflow_add-total : goal.overflow_add-total
overflow_add-total c = omega (arith, product_small c.from.result c.from-in-loop-i.result (omega (arith, c.from-in-loop-i.ensures, c.loop-i.invariant.each_small)), c.from.ensures, c.read_word-first.type_inv, c.loop-i.invariant.small)

pub loop-i-preserved : goal.loop-i-preserved
loop-i-preserved c =
    record {
      within = c.if-first-chunks.false;
      each_small = omega (arith, c.read_word-next.type_inv);
      small = omega (arith, product_small c.from.result c.from-in-loop-i.result (omega (arith, c.from-in-loop-i.ensures, c.loop-i.invariant.each_small)), c.from.ensures, c.loop-i.invariant.small, c.if-first-before.false);
      verdict = rw (c.from.ensures, c.from-in-loop-i.ensures, c.read_word-first.ensures, c.read_word-next.ensures)
          (sym (agrees_next c.args.count c.args.chunks c.args.samples c.loop-i.total c.loop-i.before c.loop-i.each c.loop-i.i c.args.bytes.now c.loop-i-test.true
          (rw (← c.read_word-first.ensures) c.if-first-before.false) (rw (← c.read_word-first.ensures) c.if-first-chunks.false) (rw (← c.read_word-next.ensures) (omega (arith, c.if-next-eq0.false))))
          ∙ c.loop-i.invariant.verdict);
    }

pub overflow_mul-result : goal.overflow_mul-result
overflow_mul-result c = omega (arith, product_small (c.from-2.result + 1) c.from-3.result (omega (arith, c.from-3.ensures, c.loop-i.invariant.each_small)), c.from-2.ensures)

pub overflow_add-result-2 : goal.overflow_add-result-2
overflow_add-result-2 c = omega (arith, product_small (c.from-2.result + 1) c.from-3.result (omega (arith, c.from-3.ensures, c.loop-i.invariant.each_small)), c.from-2.ensures, c.loop-i.invariant.small, c.loop-i.invariant.within)
