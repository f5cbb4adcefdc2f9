use Rattle.std.proofs.Common.{length, map, sym, arith}
use Rattle.spec_descriptors.proofs.ElementCounts.{valid_counts}
use Rattle.obu_element_config.specs.LayerView.{view_layer}
use Rattle.obu_descriptors.specs.ElementView.{view_element}
use Rattle.obu_descriptors.proofs.Coupled.{each_coupled, coupled_only, single_only}
use Rattle.obu_descriptors.proofs.channels.substream_channels.Goals as goal

pub channels_in_layers-requires : goal.channels_in_layers-requires
channels_in_layers-requires c =
    let counts = rw c.in-Scalable.is at (valid_counts c.requires.valid.0 (view_element c.args.element.now) c.requires.valid.1) in
    rw c.as_slice.ensures (each_coupled (map view_layer c.in-Scalable.layers.items) counts.1)

pub returns-in-Mono : goal.returns-in-Mono
returns-in-Mono c = rw c.in-Mono.is (sym (single_only (length c.args.element.now.substreams.items) 0 c.args.i (omega arith) c.requires.place))

pub returns-then-i-from : goal.returns-then-i-from
returns-then-i-from c =
    let p = c.in-Projection in
    rw p.is (sym (coupled_only p.substreams p.coupled c.args.i (omega (arith, c.if-i-from.true, c.from.ensures))))

pub returns-else-i-from : goal.returns-else-i-from
returns-else-i-from c =
    let p = c.in-Projection in
    let counts = rw p.is at (valid_counts c.requires.valid.0 (view_element c.args.element.now) c.requires.valid.1) in
    rw p.is (sym (single_only p.substreams p.coupled c.args.i (omega (arith, c.if-i-from.false, c.from.ensures)) (omega (arith, counts.1, c.requires.place))))
