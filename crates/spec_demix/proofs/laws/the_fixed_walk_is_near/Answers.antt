use Rattle.spec_demix.proofs.Layered.{walk_is_near}
use Rattle.spec_demix.proofs.laws.the_fixed_walk_is_near.Goals as goal

pub returns : goal.returns
returns c = walk_is_near
