use Rattle.std.proofs.Common.{◌≡◌, ◌-◌, map}
use Rattle.spec_bits.specs.Cursor.{IsOnByte, bytes_left}
use Rattle.spec_descriptors.specs.Tags.{tags_at}
use Rattle.obu_mix.specs.TagView.{view_tag}
use Rattle.obu_mix.proofs.TagsOfTail.{after}
use Rattle.obu_mix.proofs.tag.tags_of.Given as goal

abbrev pub invariant-loop : goal.invariant-loop
invariant-loop l = record {
  on_byte : IsOnByte l.view;
  so_far : tags_at l.count (bytes_left l.fn.view) ≡ after (map view_tag l.tags.items) (tags_at (l.count - l.counter) (bytes_left l.view));
}
