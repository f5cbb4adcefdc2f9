-- What is asked of the blocks of a mix gain.
use Rattle.std.specs.Prelude.{ℕ, ◌==◌, Bool, ◌&&◌}
use Rattle.std.specs.List.{list_any}
use Rattle.spec_sequence.specs.Parts.{BlockValue, UnitValue}
use Rattle.spec_play.specs.Selection.{parts_in, is_bezier, goes_above}
use Rattle.iamf_elements.specs.declared.units.BlockTest.{BlockTest}
use Rattle.iamf_elements.specs.declared.units.BlockTest.TheVariants.{Any, Bezier, High}

abbrev pub passes : BlockTest → ℕ → BlockValue → Bool
passes Any id block = block.fields.parameter_id == id
passes Bezier id block = (block.fields.parameter_id == id) && list_any is_bezier (parts_in block.fields.content)
passes High id block = (block.fields.parameter_id == id) && list_any goes_above (parts_in block.fields.content)

abbrev pub unit_passes : BlockTest → ℕ → UnitValue → Bool
unit_passes test id unit = list_any (passes test id) unit.blocks
