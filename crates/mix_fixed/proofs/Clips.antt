-- The last rounding by one test: a value is taken above the lowest that is rounded to a sample.
use Rattle.std.proofs.Common.{arith, ◌≡◌, ◌≤◌, ◌^◌, ℕ, ℤ, pos, ◌+ℤ◌, ◌-ℤ◌, ◌*ℤ◌, ◌<ℤ◌, ◌≤ℤ◌, neg_ℤ, ◌+◌, ◌*◌, ◌/◌, unsigned_abs, to_z, of_z, ◌<◌, ◌∙◌, sym}
use Rattle.std.specs.Int.{int_max, int_min, w32, w64, w128}
use Rattle.std.proofs.lemmas.Int.{ints, clamps}
use Rattle.spec_demix.proofs.FloorLemmas.{floor-low, floor-high}
use Rattle.spec_demix.specs.Floor.{floor_of}
use Rattle.spec_demix.specs.Rounding.{rounded}

-- a whole number held to the samples
pub held_within : (r : ℤ) (h : ℕ) → pos 0 ≤ℤ (r +ℤ pos h) → r <ℤ pos h → int_max (neg_ℤ (pos h)) (int_min r (pos h -ℤ pos 1)) ≡ r
held_within r h low high = omega (arith, ints, clamps)

-- the whole number nearest to a value
within_low : (v r : ℤ) (h : ℕ) → (v +ℤ pos 134217728) <ℤ (r *ℤ pos 268435456 +ℤ pos 268435456) → pos 0 ≤ℤ (v +ℤ pos (134217728 + h * 268435456)) → pos 0 ≤ℤ (r +ℤ pos h)
within_low v r h up low = omega (arith, ints)

within_high : (v r : ℤ) (h : ℕ) → (r *ℤ pos 268435456) ≤ℤ (v +ℤ pos 134217728) → (v +ℤ pos (134217728 + h * 268435456)) <ℤ pos (h * 536870912) → r <ℤ pos h
within_high v r h down high = omega (arith, ints)

quotient : (v r : ℤ) (h : ℕ) → (r *ℤ pos 268435456) ≤ℤ (v +ℤ pos 134217728) → (v +ℤ pos 134217728) <ℤ (r *ℤ pos 268435456 +ℤ pos 268435456)
    → pos 0 ≤ℤ (v +ℤ pos (134217728 + h * 268435456)) → pos (unsigned_abs (v +ℤ pos (134217728 + h * 268435456)) / 268435456) -ℤ pos h ≡ r
quotient v r h down up low = omega (arith, ints)

pub rounded_within : (v : ℤ) (h : ℕ) → pos 0 ≤ℤ (v +ℤ pos (134217728 + h * 268435456)) → (v +ℤ pos (134217728 + h * 268435456)) <ℤ pos (h * 536870912)
    → pos (unsigned_abs (v +ℤ pos (134217728 + h * 268435456)) / 268435456) -ℤ pos h ≡ int_max (neg_ℤ (pos h)) (int_min (rounded v) (pos h -ℤ pos 1))
rounded_within v h low high =
    let r = floor_of (v +ℤ pos (2 ^ 27)) (2 ^ 28) in
    let down = floor-low (v +ℤ pos (2 ^ 27)) (2 ^ 28) (omega arith) in
    let up = floor-high (v +ℤ pos (2 ^ 27)) (2 ^ 28) (omega arith) in
    quotient v r h down up low ∙ sym (held_within r h (within_low v r h up low) (within_high v r h down high))

-- a sample passes through 64 and 32 bits
pub narrowed : (q h : ℕ) → q < 2 * h → h ≤ 2147483648 → to_z w32 (of_z w32 (to_z w64 (of_z w64 (to_z w64 q -ℤ to_z w64 h)))) ≡ pos q -ℤ pos h
narrowed q h few small = omega (arith, ints)

pub quotient_below : (x : ℤ) (h : ℕ) → pos 0 ≤ℤ x → x <ℤ pos (h * 536870912) → unsigned_abs x / 268435456 < 2 * h
quotient_below x h low high = omega (arith, ints)

-- a sum in 128 bits
pub lifted : (v f : ℤ) (n : ℕ) → unsigned_abs v < 2 ^ 126 → f ≡ pos n → n ≤ 2 ^ 60
    → to_z w128 (of_z w128 (to_z w128 (of_z w128 v) +ℤ to_z w128 (of_z w128 f))) ≡ v +ℤ pos n
lifted v f n few e small = omega (arith, ints)
