use Rattle.std.proofs.Common.{arith, ap, sym, ◌∙◌}
use Rattle.std.specs.Option.{option_to_list}
use Rattle.obu_descriptors.specs.ElementView.{view_element}
use Rattle.spec_demix.proofs.SceneOutputs.{outputs_of_valid}
use Rattle.iamf_play.proofs.PlanShapes.{no_fewer, layout_count, layer_count, scene_count, scene_few, scene_some}
use Rattle.iamf_play.proofs.reserving.wave_channels.Goals as goal

pub element-requires : goal.element-requires
element-requires c = λ r is. no_fewer c.args.plan.now r is

pub unreachable-requires : goal.unreachable-requires
unreachable-requires c =
    let scene = sym c.in-Scene.is ∙ c.target.ensures in
    let one = c.one_rendition.ensures in
    let said = c.element.ensures.says one.0 one.1 in
    scene_some c.args.plan.now one.0 said.0 (view_element c.element.result.now) one.1 scene said.1 said.2 (sym (ap option_to_list c.in-None.is) ∙ c.output_count.ensures)

pub returns-in-Layer : goal.returns-in-Layer
returns-in-Layer c =
    let counted = layout_count c.in-Layer.layout in
    let value = c.channel_count.ensures in
    record {
      count = λ r is. value ∙ layer_count c.args.plan.now r c.in-Layer.layout is (sym c.in-Layer.is ∙ c.target.ensures);
      some = let low = counted.0 in omega (arith, value, low);
      few = let high = counted.1 in omega (arith, value, high);
    }

pub returns-in-Some : goal.returns-in-Some
returns-in-Some c =
    let scene = sym c.in-Scene.is ∙ c.target.ensures in
    let found = sym (ap option_to_list c.in-Some.is) ∙ c.output_count.ensures in
    let from = c.from.ensures in
    let one = c.one_rendition.ensures in
    let said = c.element.ensures.says one.0 one.1 in
    let valid = c.element.ensures.valid in
    let counted = scene_few c.args.plan.now one.0 said.0 (view_element c.element.result.now) c.in-Some.outputs one.1 scene said.1 said.2 (outputs_of_valid valid.0 (view_element c.element.result.now) valid.1) found in
    record {
      count = λ r is. from ∙ (let again = c.element.ensures.says r is in scene_count c.args.plan.now r again.0 (view_element c.element.result.now) c.in-Some.outputs is scene again.1 again.2 found);
      some = let low = counted.0 in omega (arith, from, low);
      few = let high = counted.1 in omega (arith, from, high);
    }
