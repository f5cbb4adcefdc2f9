use Rattle.std.proofs.Common.{◌≡◌, false, take}
use Rattle.std.specs.List.{list_any}
use Rattle.spec_sequence.specs.Parts.{temporal_units}
use Rattle.spec_sequence.specs.Reading.{values_of}
use Rattle.iamf_elements.specs.BlockTests.{unit_passes}
use Rattle.iamf_elements.proofs.units.some_block.Given as goal

abbrev pub invariant-loop-u : goal.invariant-loop-u
invariant-loop-u l = list_any (unit_passes l.test l.id) (take l.u (temporal_units (values_of l.sequence.entries))) ≡ false
