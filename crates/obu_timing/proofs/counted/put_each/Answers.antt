use Rattle.std.proofs.Common.{append_assoc, refl}
use Rattle.std.proofs.lemmas.List.{append-nil}
use Rattle.spec_syntax.proofs.Writing.{canon_joined_more}
use Rattle.spec_descriptors.specs.TimingFields.{leb_fields}
use Rattle.obu_timing.proofs.counted.put_each.Goals as goal

pub loop-number-preserved : goal.loop-number-preserved
loop-number-preserved c =
    let more = canon_joined_more leb_fields c.args.numbers.now c.loop-number.number-index 0 c.loop-number-test.true in
    (c.in_ok-put_leb.ensures.used, rw (c.in_ok-put_leb.ensures.bits, c.loop-number.invariant.1, more, append-nil, append_assoc) refl)
