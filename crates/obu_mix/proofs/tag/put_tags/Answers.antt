use Rattle.obu_mix.proofs.TagsOfTail.{none_put, tag_at, tags_put}
use Rattle.obu_mix.proofs.tag.put_tags.Goals as goal

pub put_tag-requires-clause-texts : goal.put_tag-requires-clause-texts
put_tag-requires-clause-texts c = tag_at c.args.tags.now c.loop-tag.tag-index c.loop-tag-test.true c.requires.texts

pub loop-tag-preserved : goal.loop-tag-preserved
loop-tag-preserved c = record {
  used = c.in_ok-put_tag.ensures.used;
  bits = tags_put c.args.tags.now c.loop-tag.tag-index _ _ _ c.loop-tag-test.true c.loop-tag.invariant.bits c.in_ok-put_tag.ensures.bits;
}

pub loop-tag-init : goal.loop-tag-init
loop-tag-init c = record { used = c.requires.used; bits = none_put c.args.out.now.bits }
