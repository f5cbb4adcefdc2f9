use Rattle.std.proofs.Common.{◌+◌, false, None, get_or, drop, map, sym, ◌∙◌, arith}
use Rattle.spec_layouts.specs.declared.Layout.TheVariants.{Mono}
use Rattle.spec_descriptors.specs.AudioElement.{layer_channels}
use Rattle.obu_element_config.specs.declared.layer.Layer.{Layer}
use Rattle.obu_element_config.specs.LayerView.{view_layer}
use Rattle.obu_descriptors.proofs.Coupled.{drop_next, coupled_there, single_there, others_there}
use Rattle.obu_descriptors.proofs.channels.channels_in_layers.Goals as goal

abbrev blank : Layer
blank = record { layout = Mono; gain = None; recon = false; substreams = 0; coupled = 0 }

pub returns-then-left-from : goal.returns-then-left-from
returns-then-left-from c =
    let loop = c.loop-layer in
    let layer = get_or c.args.layers.now loop.layer-index blank in
    let rest = layer_channels (map view_layer (drop (loop.layer-index + 1) c.args.layers.now)) in
    let inv = rw (drop_next c.args.layers.now loop.layer-index blank c.loop-layer-test.true) at loop.invariant in
    sym (coupled_there layer.substreams layer.coupled loop.left rest (omega (arith, c.if-left-from.true, c.from.ensures))) ∙ inv.1

pub returns-then-left-from-2 : goal.returns-then-left-from-2
returns-then-left-from-2 c =
    let loop = c.loop-layer in
    let layer = get_or c.args.layers.now loop.layer-index blank in
    let rest = layer_channels (map view_layer (drop (loop.layer-index + 1) c.args.layers.now)) in
    let inv = rw (drop_next c.args.layers.now loop.layer-index blank c.loop-layer-test.true) at loop.invariant in
    sym (single_there layer.substreams layer.coupled loop.left rest (omega (arith, c.if-left-from.false, c.from.ensures)) (omega (arith, c.if-left-from-2.true, c.from-in-loop-layer.ensures))) ∙ inv.1

pub loop-layer-preserved : goal.loop-layer-preserved
loop-layer-preserved c =
    let loop = c.loop-layer in
    let layer = get_or c.args.layers.now loop.layer-index blank in
    let rest = layer_channels (map view_layer (drop (loop.layer-index + 1) c.args.layers.now)) in
    let inv = rw (drop_next c.args.layers.now loop.layer-index blank c.loop-layer-test.true) at loop.invariant in (
      inv.0.1,
      rw c.from-left.ensures (sym (others_there layer.substreams layer.coupled loop.left rest inv.0.0 (omega (arith, c.if-left-from-2.false, c.from-in-loop-layer.ensures))) ∙ inv.1),
    )
