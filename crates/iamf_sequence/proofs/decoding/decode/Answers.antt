use Rattle.std.proofs.Common.{refl}
use Rattle.iamf_sequence.proofs.decoding.decode.Goals as goal

pub walk-requires : goal.walk-requires
walk-requires c κs = ((refl, tt), (c.requires, c.new-draft.ensures c.args.buffer.now))
