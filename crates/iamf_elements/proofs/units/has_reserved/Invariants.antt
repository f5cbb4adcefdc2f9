use Rattle.std.proofs.Common.{◌≡◌, false, take}
use Rattle.spec_sequence.specs.Parts.{temporal_units}
use Rattle.spec_sequence.specs.Reading.{values_of}
use Rattle.spec_play.specs.Selection.{has_reserved}
use Rattle.iamf_elements.specs.DemixingView.{view_demixing}
use Rattle.iamf_elements.proofs.units.has_reserved.Given as goal

abbrev pub invariant-loop-u : goal.invariant-loop-u
invariant-loop-u l = has_reserved (take l.u (temporal_units (values_of l.sequence.entries))) (view_demixing l.definition) ≡ false
