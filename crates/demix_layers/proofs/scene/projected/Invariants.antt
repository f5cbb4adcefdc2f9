use Rattle.std.proofs.Common.{◌≡◌, ◌^◌, ◌*◌, ◌≤◌, unsigned_abs}
use Rattle.spec_demix.specs.Scenes.{projected}
use Rattle.demix_layers.proofs.scene.projected.Given as goal

abbrev pub invariant-loop-k : goal.invariant-loop-k
invariant-loop-k l = record {
  value : l.sum ≡ projected l.matrix l.outputs l.coded l.c l.k;
  most : unsigned_abs l.sum ≤ l.k * 2 ^ 46;
}
