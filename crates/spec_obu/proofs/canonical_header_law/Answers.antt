use Rattle.spec_obu.proofs.CanonicalLaws.{canonical_is, canonical_shortest}
use Rattle.spec_obu.proofs.canonical_header_law.Goals as goal

pub returns-clause-is_header : goal.returns-clause-is_header
returns-clause-is_header c = canonical_is

pub returns-clause-is_shortest : goal.returns-clause-is_shortest
returns-clause-is_shortest c = canonical_shortest
