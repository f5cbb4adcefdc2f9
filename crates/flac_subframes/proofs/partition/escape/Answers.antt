use Rattle.std.proofs.Common.{arith}
use Rattle.std.proofs.lemmas.Nat.{one_shl, pow_pos}
use Rattle.flac_subframes.proofs.Partitions.{below_32}
use Rattle.flac_subframes.proofs.partition.escape.Goals as goal

pub returns-clause-small : goal.returns-clause-small
returns-clause-small c =
    let p = pow_pos c.args.count in
    rw (one_shl c.args.count 32 (omega arith)) (below_32 _ c.args.count c.requires (omega arith))
