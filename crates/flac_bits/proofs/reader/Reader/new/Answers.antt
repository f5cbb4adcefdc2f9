use Rattle.std.proofs.Common.{arith}
use Rattle.flac_bits.proofs.Moved.{empty}
use Rattle.flac_bits.proofs.reader.Reader.new.Goals as goal

pub invariant_of-result : goal.invariant_of-result
invariant_of-result c = empty c.args.bytes.now 0 (omega arith)
