use Rattle.std.proofs.Common.{◌≡◌, length, map, take}
use Rattle.std.specs.Prelude.{sum_by}
use Rattle.std.specs.List.{All}
use Rattle.obu_descriptors.specs.ElementView.{view_element}
use Rattle.iamf_channels.specs.Needed.{stream_channels}
use Rattle.iamf_channels.proofs.reserving.reserve.Given as goal

abbrev pub invariant-loop-i : goal.invariant-loop-i
invariant-loop-i l = record {
  count : length l.planes.items ≡ l.i;
  channels : map (λ p. p.channels) l.planes.items ≡ take l.i (stream_channels (view_element l.element).config);
  lengths : All (λ p. p.length ≡ l.frame_length) l.planes.items;
  sum : l.total ≡ sum_by (λ p. p.channels) l.planes.items;
}
