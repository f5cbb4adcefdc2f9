use Rattle.std.proofs.Common.{◌≡◌, ◌^◌}
use Rattle.spec_gains.specs.Modes.{coefficients_of}
use Rattle.spec_demix.specs.Sent.{kinds_of, sent_by}
use Rattle.spec_demix.specs.ExactWalk.{exact}
use Rattle.demix_channels.proofs.SeenLayers.{seen}
use Rattle.demix_layers.specs.Within.{IsWithin}
use Rattle.demix_layers.proofs.walk.walk.Given as goal

abbrev pub invariant-loop-i : goal.invariant-loop-i
invariant-loop-i l = record {
  value : l.all ≡ exact (kinds_of (seen l.layers)) (coefficients_of l.params.mode) l.params.weight (sent_by (seen l.layers) l.coded) l.i;
  within : IsWithin (2 ^ 77) l.all;
}
