use Rattle.std.proofs.Common.{arith}
use Rattle.spec_bits.specs.Leb.{leb_bytes}
use Rattle.spec_obu.specs.Canonical.{canonical_header}
use Rattle.obu_header.proofs.tests.an_obu_is_written_canonically.Goals as goal

pub write_obu-requires-clause-short : goal.write_obu-requires-clause-short
unfolding canonical_header leb_bytes
write_obu-requires-clause-short c = omega arith

pub put_obu-requires-clause-short : goal.put_obu-requires-clause-short
unfolding canonical_header leb_bytes
put_obu-requires-clause-short c = omega arith
