use Rattle.std.proofs.Common.{◌≡◌, ◌+◌, ◌*◌, ◌≤◌, ◌<◌, take}
use Rattle.spec_syntax.specs.Reading.{read}
use Rattle.spec_flac.specs.Faults.{short}
use Rattle.spec_flac.specs.Residual.{partitions}
use Rattle.flac_subframes.specs.Rows.{AreWithin}
use Rattle.flac_subframes.proofs.Partitions.{left}
use Rattle.flac_subframes.proofs.partition.partitions_from.Given as goal

abbrev pub invariant-loop-i : goal.invariant-loop-i
invariant-loop-i g l = record {
  within : l.start ≤ l.size * (l.i + 1);
  far : l.from ≤ l.start;
  whole : 0 < l.i → l.start ≡ l.size * l.i;
  small : AreWithin l.half (take l.start l.row);
  reads : read short (left l.half (g.P.Predictor.next l.predictor) l.bits l.size l.count l.i (take l.start l.row)) l.reader
      ≡ read short (partitions l.half (g.P.Predictor.next l.predictor) l.bits l.size l.count (take l.from l.fn.row)) l.fn.reader;
}
