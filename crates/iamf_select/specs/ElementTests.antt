-- What is asked of each element of a mix.
use Rattle.std.specs.Prelude.{Bool, ◌&&◌}
use Rattle.std.specs.List.{list_any}
use Rattle.spec_rules.specs.Units.{is_none_of}
use Rattle.spec_play.specs.Mixes.{MixedElement, Rendition}
use Rattle.spec_play.specs.UsedLayers.{used_layers}
use Rattle.spec_play.specs.DemixingOverTime.{demixing_of}
use Rattle.spec_play.specs.Selection.{lacks_layer, is_for_other, is_unknown, has_recon, needs_parameters, has_reserved, has_other_rate, some_part, is_bezier, is_gain_above, has_layer_above}
use Rattle.iamf_select.specs.declared.candidate.ElementTest.{ElementTest}
use Rattle.iamf_select.specs.declared.candidate.ElementTest.TheVariants.{LacksLayer, IsForOther, IsUnknown, HasRecon, LacksDemixing, HasReserved, HasOtherRate, HasBezier, HasHighGain, HasHighLayer}

abbrev pub holds : ElementTest → Rendition → MixedElement → Bool
holds LacksLayer r m = lacks_layer r.target m.element.config
holds IsForOther r m = is_for_other r.target m.element.config
holds IsUnknown r m = is_unknown m.element.config
holds HasRecon r m = has_recon (used_layers r.target m.element.config)
holds LacksDemixing r m = needs_parameters r.target m.element && is_none_of (demixing_of m.element)
holds HasReserved r m = needs_parameters r.target m.element && list_any (has_reserved r.units) (demixing_of m.element)
holds HasOtherRate r m = has_other_rate r m.gain
holds HasBezier r m = some_part is_bezier r m.gain
holds HasHighGain r m = is_gain_above r m.gain
holds HasHighLayer r m = has_layer_above r.target m.element
