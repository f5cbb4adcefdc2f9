use Rattle.std.proofs.Common.{arith}
use Rattle.mp4_file.proofs.UnitCounts.{count_is}
use Rattle.mp4_file.proofs.sizes.unit_count.Goals as goal

pub returns-clause-count : goal.returns-clause-count
returns-clause-count c = omega (arith, count_is c.args.movie.now)
