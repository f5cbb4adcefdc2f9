use Rattle.std.proofs.Common.{◌≡◌, ◌++◌, take}
use Rattle.std.specs.List.{flat_map}
use Rattle.spec_bits.specs.Bits.{all_bits}
use Rattle.spec_descriptors.specs.Tags.{tag_bytes}
use Rattle.obu_mix.specs.TagView.{view_tag}
use Rattle.obu_mix.proofs.tag.put_tags.Given as goal

abbrev pub invariant-loop-tag : goal.invariant-loop-tag
invariant-loop-tag l = record {
  used : l.out.used ≡ 0;
  bits : l.out.bits ≡ l.fn.out.bits ++ all_bits (flat_map (λ t. tag_bytes (view_tag t)) (take l.tag-index l.tags));
}
