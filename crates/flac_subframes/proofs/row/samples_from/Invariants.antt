use Rattle.std.proofs.Common.{◌≡◌, ◌-◌, take}
use Rattle.spec_syntax.specs.Reading.{read}
use Rattle.spec_flac.specs.Faults.{short}
use Rattle.spec_flac.specs.Residual.{samples}
use Rattle.flac_subframes.specs.Rows.{AreWithin}
use Rattle.flac_subframes.proofs.row.samples_from.Given as goal

abbrev pub invariant-loop-n : goal.invariant-loop-n
invariant-loop-n g l = record {
  small : AreWithin l.half (take l.n l.row);
  reads : read short (samples l.half (g.C.Code.residual l.code) (g.P.Predictor.next l.predictor) (l.to - l.n) (take l.n l.row)) l.ahead
      ≡ read short (samples l.half (g.C.Code.residual l.code) (g.P.Predictor.next l.predictor) (l.to - l.from) (take l.from l.fn.row)) l.fn.reader;
}
