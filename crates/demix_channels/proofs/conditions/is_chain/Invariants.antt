use Rattle.std.proofs.Common.{suc, ℕ, ◌<◌}
use Rattle.spec_layouts.specs.Steps.{IsStep}
use Rattle.spec_demix.specs.Sent.{layer_at}
use Rattle.demix_channels.proofs.SeenLayers.{seen}
use Rattle.demix_channels.proofs.conditions.is_chain.Given as goal

abbrev pub invariant-loop-i : goal.invariant-loop-i
invariant-loop-i l = (j : ℕ) → j < l.i → IsStep (layer_at (seen l.layers) j).layout (layer_at (seen l.layers) (suc j)).layout
