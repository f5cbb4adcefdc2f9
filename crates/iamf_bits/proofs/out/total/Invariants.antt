use Rattle.std.proofs.Common.{◌≡◌, ◌+◌, length, drop}
use Rattle.std.specs.List.{flat_map}
use Rattle.iamf_bits.proofs.out.total.Given as goal

abbrev pub invariant-loop-slice : goal.invariant-loop-slice
invariant-loop-slice l = l.sum + length (flat_map (λ s. s.now) (drop l.slice-index l.slices)) ≡ length (flat_map (λ s. s.now) l.slices)
