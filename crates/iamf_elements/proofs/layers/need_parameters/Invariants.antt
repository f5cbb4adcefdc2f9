use Rattle.iamf_elements.proofs.Walks.{NeedsAfter}
use Rattle.iamf_elements.proofs.layers.need_parameters.Given as goal

abbrev pub invariant-loop-i : goal.invariant-loop-i
invariant-loop-i l = NeedsAfter l.layers l.i
