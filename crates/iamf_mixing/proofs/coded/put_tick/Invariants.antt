use Rattle.std.proofs.Common.{◌≡◌, ◌+◌, ◌++◌, take, drop, map}
use Rattle.std.specs.List.{range_with_len}
use Rattle.iamf_bits.specs.Rows.{sample_of}
use Rattle.iamf_mixing.proofs.coded.put_tick.Given as goal

abbrev pub invariant-loop-c : goal.invariant-loop-c
invariant-loop-c l = l.row ≡ take l.at l.initial.row ++ (map (λ c. sample_of l.planes c l.n) (range_with_len 0 l.c) ++ drop (l.at + l.c) l.initial.row)
