use Rattle.std.proofs.Common.{◌≡◌, ◌/◌, ◌^◌, ◌≤◌}
use Rattle.spec_blocks.specs.ParameterBlock.{ones_below}
use Rattle.obu_data.proofs.recon_part.ones_below.Given as goal

abbrev pub invariant-loop : goal.invariant-loop
invariant-loop l = (l.ones ≡ ones_below l.counter l.bits) × (l.rest ≡ l.bits / 2 ^ l.counter) × (l.ones ≤ l.counter)
