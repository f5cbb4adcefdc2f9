use Rattle.std.proofs.Common.{◌≡◌, length, take}
use Rattle.mix_fixed.proofs.gathering.put.Given as goal

abbrev pub invariant-loop-i : goal.invariant-loop-i
invariant-loop-i l = record {
  long : length l.out ≡ length l.row;
  kept : take l.i l.out ≡ take l.i l.row;
}
