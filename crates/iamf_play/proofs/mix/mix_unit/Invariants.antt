use Rattle.std.proofs.Common.{◌≡◌, ℕ, ◌<◌, ◌*◌, ◌^◌, length, take, unsigned_abs}
use Rattle.std.specs.List.{All}
use Rattle.spec_play.specs.Mixes.{Rendition, unit_length}
use Rattle.iamf_sequence.specs.SequenceValue.{SequenceValue}
use Rattle.iamf_mixing.specs.Tracks.{HasGains}
use Rattle.iamf_play.specs.Mixing.{mixed_from, IsAt}
use Rattle.iamf_play.proofs.mix.mix_unit.Given as goal

abbrev pub invariant-loop-k : goal.invariant-loop-k
invariant-loop-k l = record {
  same : l.elements ≡ l.initial.elements;
  value : (s : SequenceValue) (r : Rendition) (u : ℕ) → IsAt s r u l.channels l.initial.elements → HasGains r r.output u l.row → length l.row ≡ unit_length r → take (l.k * l.channels) l.mixed ≡ mixed_from r u l.first l.k;
  small : All (λ z. unsigned_abs z < 2 ^ 126) (take (l.k * l.channels) l.mixed);
}
