use Rattle.std.proofs.Common.{◌≡◌, false, take}
use Rattle.std.specs.List.{list_any}
use Rattle.spec_sequence.specs.Parts.{UnitValue}
use Rattle.iamf_sequence.specs.UnitView.{IsUnit}
use Rattle.iamf_elements.specs.BlockTests.{passes}
use Rattle.iamf_elements.proofs.units.unit_passes.Given as goal

abbrev pub invariant-loop-i : goal.invariant-loop-i
invariant-loop-i l = (v : UnitValue) → IsUnit l.unit v → list_any (passes l.test l.id) (take l.i v.blocks) ≡ false
