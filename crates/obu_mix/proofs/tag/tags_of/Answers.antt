use Rattle.std.proofs.Common.{arith}
use Rattle.std.proofs.lemmas.List.{map_push}
use Rattle.obu_mix.proofs.TagsOfTail.{tag_read, name_fails, value_fails, all_read}
use Rattle.obu_mix.proofs.tag.tags_of.Goals as goal

pub loop-preserved : goal.loop-preserved
loop-preserved c = record {
  on_byte = c.in-Ok-take_text.ensures.on_byte;
  so_far = rw (c.in_default.ensures.ok, map_push) (tag_read c.args.count c.loop.counter _ _ _ c.in-Ok.name.now c.in-Ok-take_text.value.now _ _ c.loop-test.true c.in-Ok.ensures.bytes c.in-Ok-take_text.ensures.bytes c.loop.invariant.so_far);
}

pub returns-in-Err-clause-gives : goal.returns-in-Err-clause-gives
returns-in-Err-clause-gives c = (c.in-Err.field-0, name_fails c.args.count c.loop.counter _ c.in-Err.field-0 _ _ c.loop-test.true c.in-Err.ensures.bytes c.loop.invariant.so_far)

pub returns-in-Err-take_text-clause-gives : goal.returns-in-Err-take_text-clause-gives
returns-in-Err-take_text-clause-gives c =
    (c.in-Err-take_text.field-0, value_fails c.args.count c.loop.counter _ _ c.in-Ok.name.now c.in-Err-take_text.field-0 _ _ c.loop-test.true c.in-Ok.ensures.bytes c.in-Err-take_text.ensures.bytes c.loop.invariant.so_far)

pub returns-clause-gives : goal.returns-clause-gives
returns-clause-gives c = all_read c.args.count c.loop.counter _ _ _ (omega arith) c.loop.invariant.so_far
