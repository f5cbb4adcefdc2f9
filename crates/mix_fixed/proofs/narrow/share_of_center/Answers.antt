use Rattle.std.proofs.Common.{arith, refl}
use Rattle.mix_fixed.proofs.narrow.share_of_center.Goals as goal

pub over-requires-clause-ratio : goal.over-requires-clause-ratio
over-requires-clause-ratio c = (488, omega arith, refl)
