-- Sizes of WAV files, and the bytes of samples.
use Rattle.std.proofs.Common.{◌≡◌, ℕ, zero, suc, ◌+◌, ◌-◌, ◌*◌, ◌/◌, ◌^◌, ◌<◌, ℤ, pos, negsuc, Bool, true, false, nat_lt, List, [], ◌∷◌, ◌++◌, length, replicate, refl, sym, ap, subst, ◌∙◌, arith, length-append}
use Rattle.std.specs.Prelude.{◌==◌, ◌||◌, IsTrue}
use Rattle.std.specs.List.{flat_map}
use Rattle.std.specs.Int.{bytes_low_first}
use Rattle.std.proofs.Math.Nat.{mul_assoc}
use Rattle.std.proofs.lemmas.Bool.{lt-ltb, le-ltb, eqb-true}
use Rattle.spec_bits.specs.Bits.{FitsSigned, signed_of, unsigned_of}
use Rattle.spec_waves.specs.Wave.{data_size, pad, header_bytes, sample_bytes, wave}
use Rattle.spec_waves.specs.Laws.{HeaderHasSize, RiffHasSize, number_in, SampleIsSpelled}

pub header_size : HeaderHasSize
unfolding header_bytes
header_size s = refl

length-low : (i k n : ℕ) → length (bytes_low_first i k n) ≡ k
length-low i zero n = refl
length-low i (suc k) n = ap suc (length-low (suc i) k n)

length-samples : (depth : ℕ) (samples : List ℤ) → length (flat_map (λ (z : ℤ). sample_bytes depth z) samples) ≡ length samples * (depth / 8)
length-samples depth [] = omega arith
length-samples depth (z ∷ samples) =
    omega (arith, length-append (sample_bytes depth z) (flat_map (λ (y : ℤ). sample_bytes depth y) samples), length-low 0 (depth / 8) (unsigned_of depth z), length-samples depth samples)

length-same : (n x : ℕ) → length (replicate n x) ≡ n
length-same zero x = refl
length-same (suc n) x = ap suc (length-same n x)

pub riff_has : RiffHasSize
unfolding wave
riff_has s samples count =
    let all : length samples * (s.depth / 8) ≡ data_size s = ap (λ (n : ℕ). n * (s.depth / 8)) count ∙ mul_assoc s.frames s.channels (s.depth / 8) in
    omega (
      arith,
      all,
      header_size s,
      length-samples s.depth samples,
      length-same (pad s) 0,
      length-append (header_bytes s) (flat_map (λ (z : ℤ). sample_bytes s.depth z) samples ++ replicate (pad s) 0),
      length-append (flat_map (λ (z : ℤ). sample_bytes s.depth z) samples) (replicate (pad s) 0),
    )

-- a number without a sign is spelled by its bytes
two : (n : ℕ) → n < 65536 → number_in (bytes_low_first 0 2 n) ≡ n
two n small = omega arith

three : (n : ℕ) → n < 16777216 → number_in (bytes_low_first 0 3 n) ≡ n
three n small = omega arith

four : (n : ℕ) → n < 4294967296 → number_in (bytes_low_first 0 4 n) ≡ n
four n small = omega arith

-- what two's complement gives back
signed_pos : (k n : ℕ) → 2 * n < 2 ^ k → signed_of k n ≡ pos n
signed_pos k n small = rw (lt-ltb (2 * n) (2 ^ k) small) refl

signed_neg : (k n : ℕ) → 2 * n + 1 < 2 ^ k → signed_of k (2 ^ k - 1 - n) ≡ negsuc n
signed_neg k n small =
    let large : nat_lt (2 * (2 ^ k - 1 - n)) (2 ^ k) ≡ false = le-ltb _ _ (omega arith) in
    rw large (ap negsuc (omega arith))

back : (k : ℕ) (z : ℤ) → FitsSigned k z → signed_of k (unsigned_of k z) ≡ z
back k (pos n) fits = signed_pos k n fits
back k (negsuc n) fits = signed_neg k n fits

room : (k : ℕ) (z : ℤ) → FitsSigned k z → unsigned_of k z < 2 ^ k
room k (pos n) fits = omega (arith, fits)
room k (negsuc n) fits = omega (arith, fits)

abbrev IsRead : ℕ → Type 0
IsRead depth = (z : ℤ) → FitsSigned depth z → number_in (sample_bytes depth z) ≡ unsigned_of depth z

at_16 : IsRead 16
at_16 z fits = two (unsigned_of 16 z) (room 16 z fits)

at_24 : IsRead 24
at_24 z fits = three (unsigned_of 24 z) (room 24 z fits)

at_32 : IsRead 32
at_32 z fits = four (unsigned_of 32 z) (room 32 z fits)

by_depth : (a b c : Bool) (depth : ℕ) → (depth == 16) ≡ a → (depth == 24) ≡ b → (depth == 32) ≡ c → IsTrue (a || b || c) → IsRead depth
by_depth true b c depth p q r some = subst IsRead (sym (eqb-true depth 16 p)) at_16
by_depth false true c depth p q r some = subst IsRead (sym (eqb-true depth 24 q)) at_24
by_depth false false true depth p q r some = subst IsRead (sym (eqb-true depth 32 r)) at_32
by_depth false false false depth p q r some = cc

pub spelled : SampleIsSpelled
spelled depth z some fits =
    ap (signed_of depth) (by_depth (depth == 16) (depth == 24) (depth == 32) depth refl refl refl some z fits) ∙ back depth z fits
