use Rattle.std.proofs.Common.{◌≡◌, ◌+◌, ◌≤◌, ◌++◌, length, take, drop}
use Rattle.std.specs.Prelude.{vec_len, vec_capacity}
use Rattle.std.specs.List.{flat_map}
use Rattle.iamf_bits.proofs.out.extend_by_all.Given as goal

abbrev pub invariant-loop-slice : goal.invariant-loop-slice
invariant-loop-slice l = record {
  items : l.bytes.items ≡ l.fn.bytes.items ++ flat_map (λ s. s.now) (take l.slice-index l.slices);
  room : vec_len l.bytes + length (flat_map (λ s. s.now) (drop l.slice-index l.slices)) ≤ vec_capacity l.bytes;
}
