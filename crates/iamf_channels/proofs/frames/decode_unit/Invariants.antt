use Rattle.std.proofs.Common.{◌≡◌, ◌<◌, ℕ, map, get_or}
use Rattle.iamf_channels.specs.Heard.{codec_in, unit_in}
use Rattle.iamf_channels.specs.Decoded.{no_rows, Holds}
use Rattle.iamf_channels.proofs.frames.decode_unit.Given as goal

abbrev pub invariant-loop-i : goal.invariant-loop-i
invariant-loop-i l = record {
  channels : map (λ p. p.channels) l.planes ≡ map (λ p. p.channels) l.initial.planes;
  lengths : map (λ p. p.length) l.planes ≡ map (λ p. p.length) l.initial.planes;
  done : (k : ℕ) → k < l.i → Holds (codec_in l.sequence) (unit_in l.sequence l.u) (get_or l.substreams k 0) (get_or l.planes k no_rows);
}
