use Rattle.std.proofs.Common.{◌∙◌, sym, ap}
use Rattle.std.specs.List.{list_any}
use Rattle.obu_data.specs.BlockView.{view_gain_part}
use Rattle.spec_play.specs.Selection.{goes_above}
use Rattle.iamf_elements.proofs.Walks.{list_any-map}
use Rattle.iamf_elements.proofs.blocks.goes_above.Goals as goal

pub returns : goal.returns
returns c = c.some_above.ensures ∙ sym (list_any-map goes_above view_gain_part c.parts_of.result.now) ∙ ap (list_any goes_above) c.parts_of.ensures
