use Rattle.obu_mix.proofs.TagsOfTail.{split_read}
use Rattle.obu_mix.proofs.tag.split_tags.Goals as goal

pub returns-in-Some : goal.returns-in-Some
returns-in-Some c =
    split_read c.args.tail.now c.rest.result.now _ c.whole-view.result _ c.in-len1-up.len_at_least c.whole-view.ensures (rw c.in-Some.is at c.in_ok-tags.ensures.gives) c.rest.ensures.all
