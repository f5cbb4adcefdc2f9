use Rattle.std.proofs.Common.{◌≡◌, ◌+◌, ◌-◌, ◌*◌, ◌≤◌, ◌<◌, length, take}
use Rattle.spec_syntax.specs.Reading.{read}
use Rattle.spec_flac.specs.Faults.{short}
use Rattle.spec_flac.specs.Residual.{samples, coded_residual}
use Rattle.flac_subframes.specs.Rows.{AreWithin}
use Rattle.flac_subframes.proofs.row.near_samples.Given as goal

abbrev pub invariant-loop-n : goal.invariant-loop-n
invariant-loop-n g l = record {
  onward : l.from ≤ l.n;
  ahead : l.n < l.end → l.near.place + 57 * (l.end - l.n) + 7 ≤ 8 * length l.near.bytes;
  within : l.n ≤ l.end;
  small : AreWithin l.half (take l.n l.row);
  reads : read short (samples l.half (coded_residual l.parameter) (g.P.Predictor.next l.predictor) (l.to - l.n) (take l.n l.row)) l.near
      ≡ read short (samples l.half (coded_residual l.parameter) (g.P.Predictor.next l.predictor) (l.to - l.from) (take l.from l.fn.row)) l.fn.reader;
}

abbrev pub decreases-loop-n : goal.decreases-loop-n
decreases-loop-n g l = l.to - l.n
