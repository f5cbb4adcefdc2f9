use Rattle.flac_subframes.proofs.Partitions.{below_32}
use Rattle.flac_subframes.proofs.partition.small_from.Goals as goal

pub returns-in-Ok-clause-small : goal.returns-in-Ok-clause-small
returns-in-Ok-clause-small c = below_32 _ c.args.count c.requires c.in-Ok.ensures.fits
