use Rattle.std.proofs.Common.{◌≡◌, take}
use Rattle.std.specs.List.{flat_map, sum_by}
use Rattle.iamf_mixing.specs.Ticks.{tick_of}
use Rattle.iamf_mixing.proofs.coded.coded_row.Given as goal

abbrev pub invariant-loop-substream : goal.invariant-loop-substream
invariant-loop-substream l = record {
  reached : l.at ≡ sum_by (λ p. p.channels) (take l.substream-index l.planes);
  written : take l.at l.row ≡ flat_map (tick_of l.n) (take l.substream-index l.planes);
}
