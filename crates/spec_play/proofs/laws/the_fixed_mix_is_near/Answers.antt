use Rattle.spec_play.proofs.PlayableMixes.{fixed_mix_is_near}
use Rattle.spec_play.proofs.laws.the_fixed_mix_is_near.Goals as goal

pub returns : goal.returns
returns c = fixed_mix_is_near
