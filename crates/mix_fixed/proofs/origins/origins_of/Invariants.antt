use Rattle.std.proofs.Common.{◌≡◌}
use Rattle.mix_fixed.specs.Origins.{origins_of}
use Rattle.mix_fixed.proofs.origins.origins_of.Given as goal

abbrev pub invariant-loop-i : goal.invariant-loop-i
invariant-loop-i l = l.all ≡ origins_of l.layers l.i
