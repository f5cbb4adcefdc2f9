use Rattle.iamf_bits.proofs.Place.{reserved_there, reserved_short}
use Rattle.iamf_bits.proofs.view.View.skip_bits.Goals as goal

pub returns-in-Ok-clause-takes : goal.returns-in-Ok-clause-takes
returns-in-Ok-clause-takes c = reserved_there _ _ _ _ c.in-Ok.ensures.takes

pub returns-in-Err-clause-takes : goal.returns-in-Err-clause-takes
returns-in-Err-clause-takes c = (reserved_short _ _ _ c.in-Err.ensures.takes.0, c.in-Err.ensures.takes.1)
