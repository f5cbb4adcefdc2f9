use Rattle.std.proofs.Common.{◌∙◌, sym, ap}
use Rattle.std.specs.List.{list_any}
use Rattle.obu_data.specs.BlockView.{view_gain_part}
use Rattle.spec_play.specs.Selection.{is_bezier}
use Rattle.iamf_elements.proofs.Walks.{list_any-map}
use Rattle.iamf_elements.proofs.blocks.has_bezier.Goals as goal

pub returns : goal.returns
returns c = c.some_bezier.ensures ∙ sym (list_any-map is_bezier view_gain_part c.parts_of.result.now) ∙ ap (list_any is_bezier) c.parts_of.ensures
