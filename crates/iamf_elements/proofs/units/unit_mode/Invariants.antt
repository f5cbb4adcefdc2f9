use Rattle.std.proofs.Common.{◌≡◌, [], take}
use Rattle.spec_sequence.specs.Parts.{UnitValue}
use Rattle.iamf_sequence.specs.UnitView.{IsUnit}
use Rattle.spec_play.specs.DemixingOverTime.{unit_modes}
use Rattle.iamf_elements.proofs.units.unit_mode.Given as goal

abbrev pub invariant-loop-i : goal.invariant-loop-i
invariant-loop-i l = (v : UnitValue) → IsUnit l.unit v → unit_modes l.id (record { frames = []; blocks = take l.i v.blocks }) ≡ []
