use Rattle.std.proofs.Common.{arith}
use Rattle.iamf_elements.proofs.Walks.{needed_nowhere}
use Rattle.iamf_elements.proofs.layers.need_parameters.Goals as goal

pub returns : goal.returns
returns c = needed_nowhere c.args.layers.now c.loop-i.i (omega arith) c.loop-i.invariant
