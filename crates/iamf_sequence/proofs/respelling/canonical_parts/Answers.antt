use Rattle.iamf_sequence.proofs.PartsJoined.{own}
use Rattle.iamf_sequence.proofs.respelling.canonical_parts.Goals as goal

pub finish-requires : goal.finish-requires
finish-requires c = let w = c.in-Ok.ensures.walks in (w.0, own c.walk.new.gather c.args.buffer.now w.0 w.2)
