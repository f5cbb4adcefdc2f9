use Rattle.std.proofs.Common.{false, None, append_assoc, refl}
use Rattle.spec_layouts.specs.declared.Layout.TheVariants.{Mono}
use Rattle.spec_descriptors.specs.ElementFields.{layer_fields}
use Rattle.obu_element_config.specs.declared.layer.Layer.{Layer}
use Rattle.obu_element_config.specs.LayerView.{view_layer}
use Rattle.spec_syntax.proofs.Fitting.{fit_mapped}
use Rattle.spec_syntax.proofs.Writing.{canon_mapped_more}
use Rattle.obu_element_config.proofs.layer.put_each.Goals as goal

abbrev blank : Layer
blank = record { layout = Mono; gain = None; recon = false; substreams = 0; coupled = 0 }

pub put_layer-requires-clause-fits : goal.put_layer-requires-clause-fits
put_layer-requires-clause-fits c = fit_mapped layer_fields view_layer c.args.layers.now c.loop-layer.layer-index blank c.loop-layer-test.true c.requires.fits

pub loop-layer-preserved : goal.loop-layer-preserved
loop-layer-preserved c =
    let more = canon_mapped_more layer_fields view_layer c.args.layers.now c.loop-layer.layer-index blank c.loop-layer-test.true in
    (c.in_ok-put_layer.ensures.used, rw (c.in_ok-put_layer.ensures.bits, c.loop-layer.invariant.1, more, append_assoc) refl)
