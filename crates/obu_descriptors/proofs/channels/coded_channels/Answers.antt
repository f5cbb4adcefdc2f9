use Rattle.std.proofs.Common.{◌≡◌, ◌+◌, length, map, ap, sym, refl, ◌∙◌, arith}
use Rattle.std.specs.Prelude.{sum}
use Rattle.spec_descriptors.specs.AudioElement.{layer_channels, coupled_first}
use Rattle.spec_descriptors.proofs.ElementCounts.{valid_counts, sum-layer_channels, sum-coupled_first}
use Rattle.obu_element_config.specs.LayerView.{view_layer}
use Rattle.obu_descriptors.specs.ElementView.{view_element}
use Rattle.std.proofs.lemmas.List.{length-map}
use Rattle.obu_descriptors.proofs.channels.coded_channels.Goals as goal

pub layers_channels-requires : goal.layers_channels-requires
layers_channels-requires c =
    let counts = rw c.in-Scalable.is at (valid_counts c.requires.0 (view_element c.args.element.now) c.requires.1) in
    omega (arith, counts.0, length-map c.in-Scalable.layers.items view_layer, ap length c.as_slice.ensures)

pub overflow_cast-result : goal.overflow_cast-result
overflow_cast-result c =
    let counts = rw c.in-Mono.is at (valid_counts c.requires.0 (view_element c.args.element.now) c.requires.1) in
    omega (arith, counts.0, c.len.ensures.value)

pub returns-in-Scalable : goal.returns-in-Scalable
returns-in-Scalable c =
    let list = map view_layer c.in-Scalable.layers.items in
    let counts = rw c.in-Scalable.is at (valid_counts c.requires.0 (view_element c.args.element.now) c.requires.1) in
    let told = rw c.as_slice.ensures at c.layers_channels.ensures in
    let all : c.layers_channels.result ≡ sum (layer_channels list) = told ∙ sym (sum-layer_channels list counts.1) in
    rw (c.in-Scalable.is, all) refl

pub returns-in-Projection : goal.returns-in-Projection
returns-in-Projection c =
    let p = c.in-Projection in
    let counts = rw p.is at (valid_counts c.requires.0 (view_element c.args.element.now) c.requires.1) in
    let all : c.from.result + c.from-in-Projection.result ≡ sum (coupled_first p.substreams p.coupled) =
    omega (arith, sum-coupled_first p.substreams p.coupled counts.0, c.from.ensures, c.from-in-Projection.ensures) in
    rw (p.is, all) refl
