use Rattle.std.proofs.Common.{None, refl}
use Rattle.std.proofs.lemmas.Slice.Zip.{either_empty_from_Zip}
use Rattle.obu_data.proofs.Timed.{pair_fits, pair_put, pairs_done}
use Rattle.obu_data.proofs.gain_part.put_timed_parts.Goals as goal

pub put_timed_part-requires-clause-fits : goal.put_timed_part-requires-clause-fits
put_timed_part-requires-clause-fits c = let e = c.in-Some.ensures.steps in (pair_fits _ _ _ _ _ _ e.0 e.1 c.loop-duration.invariant.1).0

pub loop-duration-preserved : goal.loop-duration-preserved
loop-duration-preserved c =
    let e = c.in-Some.ensures.steps in (
      c.in_ok-put_timed_part.ensures.1,
      (pair_fits _ _ _ _ _ _ e.0 e.1 c.loop-duration.invariant.1).1,
      pair_put _ _ _ _ _ _ _ _ _ e.0 e.1 c.in_ok-put_timed_part.ensures.0 c.loop-duration.invariant.2,
    )

pub returns : goal.returns
returns c = (pairs_done _ _ _ _ (either_empty_from_Zip c.loop-duration.duration-iterator c.next.new.self None refl c.in-None.ensures.steps) c.loop-duration.invariant.2, c.loop-duration.invariant.0)
