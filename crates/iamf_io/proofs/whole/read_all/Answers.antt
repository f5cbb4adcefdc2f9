use Rattle.std.proofs.Common.{rules}
use Rattle.iamf_io.proofs.Calls.{filled, goes_on_reading, takes_most, takes_count}
use Rattle.iamf_io.proofs.whole.read_all.Goals as goal

pub returns-then-read-limit-clause-one_more : goal.returns-then-read-limit-clause-one_more
returns-then-read-limit-clause-one_more g c _ =
    takes_count _ _ _ _ _ _ _ _ _ _ _ c.reading.invariant
    (filled c.in_default.ensures.kept c.read_after.ensures.kept c.in-Ok.ensures.within c.in-Ok.ensures.bytes) (search rules) (search rules)

pub returns-then-read-limit-clause-lost : goal.returns-then-read-limit-clause-lost
returns-then-read-limit-clause-lost g c =
    takes_most _ _ _ _ _ _ _ _ _ _ _ c.reading.invariant
    (filled c.in_default.ensures.kept c.read_after.ensures.kept c.in-Ok.ensures.within c.in-Ok.ensures.bytes) (search rules)

pub reading-preserved : goal.reading-preserved
reading-preserved g c =
    goes_on_reading _ _ _ _ _ _ _ _ _ _ _ _ c.reading.invariant
    (filled c.in_default.ensures.kept c.read_after.ensures.kept c.in-Ok.ensures.within c.in-Ok.ensures.bytes) (search rules) c.in-Ok.ensures.cause.kept
