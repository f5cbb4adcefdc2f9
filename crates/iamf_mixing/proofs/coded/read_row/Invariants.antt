use Rattle.std.proofs.Common.{◌≡◌, ℕ, ◌<◌, get_or, pos}
use Rattle.spec_samples.specs.Lpcm.{sample}
use Rattle.iamf_mixing.proofs.coded.read_row.Given as goal

abbrev pub invariant-loop-n : goal.invariant-loop-n
invariant-loop-n l = (m : ℕ) → m < l.n → get_or l.row m (pos 0) ≡ sample l.bytes l.little l.depth l.channels m l.c
