-- Two's complement of 16, 24 and 32 bits, as the definitions and as the code have it.
use Rattle.std.proofs.Common.{◌≡◌, ℕ, suc, ◌-◌, ◌*◌, ◌/◌, ◌^◌, ◌<◌, true, false, cond, ltb, ℤ, pos, negsuc, to_z, of_z, FitsSigned, w16, w32, refl, ap, ◌∙◌, arith, inl, inr}
use Rattle.std.specs.Int.Signed.{shr_z, mag_shr}
use Rattle.std.proofs.lemmas.Int.{to_z-of_z}
use Rattle.std.proofs.lemmas.Bool.{cases_lt, lt-ltb, le-ltb}
use Rattle.spec_bits.specs.Bits.{signed_of}

same_sign : (half n : ℕ) → cond (ltb n half) (pos n) (negsuc (2 * half - suc n)) ≡ cond (ltb (2 * n) (2 * half)) (pos n) (negsuc (2 * half - 1 - n))
same_sign half n = elim (cases_lt n half) [
  | inl lt ↦
      let t : ltb n half ≡ true = lt-ltb _ _ lt in
      let u : ltb (2 * n) (2 * half) ≡ true = lt-ltb _ _ (omega arith) in
      rw (t, u) refl
  | inr le ↦
      let t : ltb n half ≡ false = le-ltb _ _ le in
      let u : ltb (2 * n) (2 * half) ≡ false = le-ltb _ _ (omega arith) in
      let same : 2 * half - suc n ≡ 2 * half - 1 - n = omega arith in
      rw (t, u) (ap negsuc same)
]

pub signed_16 : (n : ℕ) → to_z w16 n ≡ signed_of 16 n
signed_16 n = same_sign 32768 n

pub signed_32 : (n : ℕ) → to_z w32 n ≡ signed_of 32 n
signed_32 n = same_sign 2147483648 n

-- 24 bits are the upper ones of 32, above 8 bits of 0
signed_24 : (n : ℕ) → n < 2 ^ 24 → shr_z (to_z w32 (n * 256)) 256 ≡ signed_of 24 n
signed_24 n small = elim (cases_lt n 8388608) [
  | inl lt ↦
      let t : ltb (n * 256) 2147483648 ≡ true = lt-ltb _ _ (omega arith) in
      let u : ltb (2 * n) 16777216 ≡ true = lt-ltb _ _ (omega arith) in
      let same : n * 256 / 256 ≡ n = omega arith in
      rw (t, u) (ap pos same)
  | inr le ↦
      let t : ltb (n * 256) 2147483648 ≡ false = le-ltb _ _ (omega arith) in
      let u : ltb (2 * n) 16777216 ≡ false = le-ltb _ _ (omega arith) in
      let same : (4294967296 - suc (n * 256)) / 256 ≡ 16777216 - 1 - n = omega arith in
      rw (t, u) (ap negsuc same)
]

pub shifted_24 : (r : ℤ) (n : ℕ) → n < 2 ^ 24 → FitsSigned w32 r → r ≡ to_z w32 (n * 256) → to_z w32 (of_z w32 (shr_z (to_z w32 (of_z w32 r)) 256)) ≡ signed_of 24 n
shifted_24 r n small fits is =
    let shifted : FitsSigned w32 (shr_z r 256) = record { sfits = omega (arith, fits.sfits, mag_shr r 256) } in
    ap (λ (z : ℤ). to_z w32 (of_z w32 (shr_z z 256))) (to_z-of_z w32 r fits) ∙ to_z-of_z w32 (shr_z r 256) shifted ∙ ap (λ (z : ℤ). shr_z z 256) is ∙ signed_24 n small
