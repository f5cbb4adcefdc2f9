use Rattle.std.proofs.Common.{◌≡◌, ℕ, ◌+◌, ◌*◌, ◌<◌, get_or, pos}
use Rattle.spec_samples.specs.Lpcm.{sample}
use Rattle.iamf_mixing.proofs.coded.read_rows.Given as goal

abbrev pub invariant-loop-c : goal.invariant-loop-c
invariant-loop-c l = (d m : ℕ) → d < l.c → m < l.ticks → get_or l.samples (d * l.ticks + m) (pos 0) ≡ sample l.bytes l.little l.depth l.channels m d
