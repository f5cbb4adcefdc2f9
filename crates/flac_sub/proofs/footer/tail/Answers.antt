use Rattle.std.proofs.Common.{◌≡◌, refl, true}
use Rattle.spec_bits.specs.Cursor.{bits_left}
use Rattle.flac_sub.proofs.WholeFrames.{some_bits}
use Rattle.flac_sub.proofs.footer.tail.Goals as goal

pub returns-else-is_at_end-clause-some : goal.returns-else-is_at_end-clause-some
returns-else-is_at_end-clause-some c = (refl, some_bits (bits_left c.args.reader.now) (λ none. let end : c.is_at_end.result ≡ true = c.is_at_end.ensures.1 none in cc))
