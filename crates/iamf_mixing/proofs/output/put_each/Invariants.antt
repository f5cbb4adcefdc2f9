use Rattle.std.proofs.Common.{◌≡◌, ◌*◌, take}
use Rattle.std.specs.List.{flat_map}
use Rattle.iamf_mixing.specs.Bytes.{mixed_bytes}
use Rattle.iamf_mixing.proofs.output.put_each.Given as goal

abbrev pub invariant-loop-i : goal.invariant-loop-i
invariant-loop-i l = take (l.i * l.size) l.bytes ≡ flat_map (mixed_bytes l.depth) (take l.i l.mixed)
