use Rattle.std.proofs.Common.{◌≡◌, List, Option, Some, None, map, ap, subst}
use Rattle.std.specs.Prelude.{option_map}
use Rattle.spec_bits.specs.Form.{canonical}
use Rattle.spec_descriptors.specs.Tags.{Tag}
use Rattle.obu_mix.specs.TagView.{view_tag, CanBeTagged}
use Rattle.obu_mix.specs.MixView.{tags_in}
use Rattle.obu_mix.proofs.TagsOfTail.{list_put, no_list_put}
use Rattle.obu_mix.proofs.mix_presentation.put_tag_list.Goals as goal

pub put_tags-requires-clause-texts : goal.put_tags-requires-clause-texts
put_tags-requires-clause-texts c =
    let list : tags_in c.args.mix.now ≡ Some (map view_tag c.in-Some.tags.items) = ap (option_map (λ ts. map view_tag ts.items)) c.in-Some.is in
    let can : CanBeTagged (Some (map view_tag c.in-Some.tags.items)) c.args.mix.now.tail.now = subst (λ (o : Option (List Tag)). CanBeTagged o c.args.mix.now.tail.now) list c.requires.tags in
    rw c.as_slice.ensures can.1

pub returns-in_ok-put_tags-clause-bits : goal.returns-in_ok-put_tags-clause-bits
unfolding canonical
returns-in_ok-put_tags-clause-bits c =
    let list : tags_in c.args.mix.now ≡ Some (map view_tag c.in-Some.tags.items) = ap (option_map (λ ts. map view_tag ts.items)) c.in-Some.is in
    list_put _ _ _ c.len.result c.as_slice.result.now c.in-Some.tags.items _ c.len.ensures.value c.as_slice.ensures list c.in_ok-put_bits.ensures.bits c.in_ok-put_tags.ensures.bits

pub returns-in_default-clause-bits : goal.returns-in_default-clause-bits
returns-in_default-clause-bits c =
    let list : tags_in c.args.mix.now ≡ None = ap (option_map (λ ts. map view_tag ts.items)) c.in_default.is in
    no_list_put _ _ list
