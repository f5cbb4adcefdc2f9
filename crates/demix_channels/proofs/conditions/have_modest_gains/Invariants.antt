use Rattle.std.proofs.Common.{ℕ, ◌<◌}
use Rattle.std.specs.Prelude.{slice_get}
use Rattle.demix_channels.specs.Gains.{IsModestLayer}
use Rattle.demix_channels.proofs.conditions.have_modest_gains.Given as goal

abbrev pub invariant-loop-i : goal.invariant-loop-i
invariant-loop-i l = (j : ℕ) → j < l.i → IsModestLayer (slice_get l.layers j)
