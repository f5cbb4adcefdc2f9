-- Samples of linear PCM have 32 bits.
use Rattle.std.proofs.Common.{arith, ◌≡◌, ◌<◌, ◌≤◌, ◌+◌, ◌*◌, ◌/◌, ◌^◌, ℕ, ℤ, pos, negsuc, IsTrue, List, length, unsigned_abs, Bool}
use Rattle.std.proofs.Math.Nat.{pow-le-pow_right}
use Rattle.spec_bits.specs.Bits.{FitsSigned}
use Rattle.spec_samples.specs.Lpcm.{frame_bytes, is_depth, sample_place, sample}
use Rattle.spec_samples.proofs.FrameLaws.{tile, fit}

pub low_depth : (depth : ℕ) → IsTrue (is_depth depth) → 1 ≤ depth
low_depth depth e = grind arith

pub high_depth : (depth : ℕ) → IsTrue (is_depth depth) → depth ≤ 32
high_depth depth e = grind arith

powers : (depth : ℕ) → depth ≤ 32 → 2 ^ depth ≤ 2 ^ 32
powers depth high = let two : 0 < 2 = omega arith in pow-le-pow_right two high

fits_small : (depth : ℕ) (z : ℤ) → depth ≤ 32 → FitsSigned depth z → unsigned_abs z ≤ 2 ^ 31
fits_small depth (pos n) high fits = let p = powers depth high in let f : 2 * n < 2 ^ depth = fits in omega arith
fits_small depth (negsuc n) high fits = let p = powers depth high in let f : 2 * n + 1 < 2 ^ depth = fits in omega arith

pub sample_small : (bytes : List ℕ) (little : Bool) (depth channels frame_length n c : ℕ) → IsTrue (is_depth depth) → length bytes ≡ frame_bytes frame_length channels depth → n < frame_length → c < channels
    → unsigned_abs (sample bytes little depth channels n c) ≤ 2 ^ 31
sample_small bytes little depth channels frame_length n c deep whole below there =
    let within : sample_place channels depth n c + depth / 8 ≤ frame_bytes frame_length channels depth = (tile frame_length channels depth deep).within n c below there in
    fits_small depth (sample bytes little depth channels n c) (high_depth depth deep) (fit bytes little depth channels n c deep (omega arith))
