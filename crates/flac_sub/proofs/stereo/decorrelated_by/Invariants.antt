use Rattle.flac_sub.proofs.TwoRows.{Done}
use Rattle.flac_sub.proofs.stereo.decorrelated_by.Given as goal

abbrev pub invariant-loop-n : goal.invariant-loop-n
invariant-loop-n g l = Done g.row.CODE l.half l.fn.first l.fn.second l.first l.second l.n
