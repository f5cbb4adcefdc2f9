use Rattle.std.proofs.Common.{arith}
use Rattle.iamf_bits.proofs.TextLoop.{search_goes_on, search_runs_out, search_is_long, search_finds, search_is_no_text}
use Rattle.iamf_bits.proofs.front.text.Goals as goal

pub returns-then-i-bytes : goal.returns-then-i-bytes
returns-then-i-bytes c = search_runs_out _ _ c.loop-i-test.true c.if-i-bytes.true c.loop-i.invariant

pub returns-in-Ok : goal.returns-in-Ok
returns-in-Ok c = (c.if-i-bytes.false, search_finds _ _ c.loop-i-test.true c.if-i-bytes.false c.if-bytes-i-eq0.true c.in-Ok.ensures.cases.1 c.loop-i.invariant)

pub returns-in-Err : goal.returns-in-Err
returns-in-Err c = search_is_no_text _ _ c.loop-i-test.true c.if-i-bytes.false c.if-bytes-i-eq0.true c.in-Err.ensures.cases.0 c.loop-i.invariant

pub loop-i-preserved : goal.loop-i-preserved
loop-i-preserved c = search_goes_on _ _ c.if-i-bytes.false c.if-bytes-i-eq0.false c.loop-i.invariant

pub returns : goal.returns
returns c = search_is_long _ _ (omega arith) c.loop-i.invariant
