use Rattle.std.proofs.Common.{◌≡◌, ◌++◌, ◌-◌, ◌*◌, ◌^◌, ◌≤◌}
use Rattle.spec_bits.specs.Leb.{leb_within}
use Rattle.mp4_file.proofs.fields.put_leb.Given as goal

abbrev pub invariant-loop-i : goal.invariant-loop-i
invariant-loop-i l = record {
  bytes : l.out.items ++ leb_within (4 - l._i) l.rest ≡ l.fn.out.items ++ leb_within 4 l.fn.x;
  room : l.rest * 128 ^ l._i ≤ 4294967295;
}
