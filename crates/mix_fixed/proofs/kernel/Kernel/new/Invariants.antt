use Rattle.std.proofs.Common.{◌≡◌, length, take}
use Rattle.demix_channels.proofs.SeenLayers.{seen}
use Rattle.mix_fixed.proofs.kernel.Kernel.new.Given as goal

abbrev pub invariant-loop-i : goal.invariant-loop-i
invariant-loop-i l = record {
  long : length l.kept ≡ 6;
  kept : take l.i l.kept ≡ take l.i (seen l.layers);
}
