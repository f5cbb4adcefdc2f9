use Rattle.std.proofs.Common.{◌∙◌, arith}
use Rattle.spec_bits.specs.Leb.{leb_bytes}
use Rattle.mp4_file.proofs.LebBytes.{leb_next, leb_room, leb_last}
use Rattle.mp4_file.proofs.fields.put_leb.Goals as goal

pub loop-i-preserved : goal.loop-i-preserved
loop-i-preserved c =
    record {
      bytes = rw c.in_ok-push-2.ensures.items (leb_next c.loop-i.out.items c.loop-i._i c.loop-i.rest c.loop-i-test.true c.if-rest-lt128.false) ∙ c.loop-i.invariant.bytes;
      room = omega (arith, leb_room c.loop-i.rest c.loop-i._i, c.loop-i.invariant.room);
    }

pub returns-then-rest-lt128 : goal.returns-then-rest-lt128
unfolding leb_bytes
returns-then-rest-lt128 c =
    c.in_ok-push.ensures.items ∙ leb_last c.loop-i.out.items c.loop-i._i c.loop-i.rest c.loop-i-test.true c.if-rest-lt128.true ∙ c.loop-i.invariant.bytes
