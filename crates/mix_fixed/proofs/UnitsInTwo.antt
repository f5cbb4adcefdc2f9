-- The units of a number of parts of 10^12 in two steps: those of its whole, and those of the rest, where 2^28 / 10^12 is 2^16 / 5^12.
use Rattle.std.proofs.Common.{arith, ◌≡◌, ◌^◌, ℤ, pos, ◌+ℤ◌, ◌*ℤ◌, ◌≤ℤ◌, ◌<ℤ◌, ◌≤◌, unsigned_abs}
use Rattle.std.specs.Int.{int_rem_euclid}
use Rattle.std.proofs.lemmas.Int.{ints}
use Rattle.spec_demix.specs.Floor.{floor_of}
use Rattle.spec_demix.specs.FixedWalk.{units_of}
use Rattle.spec_demix.proofs.FloorLemmas.{floor-low, floor-high}
use Rattle.demix_layers.proofs.Floors.{floor-rest, floor_only}

pub units_in_two : (p w r q : ℤ) → w ≡ floor_of p 1000000000000 → r ≡ int_rem_euclid p (pos 1000000000000) → q ≡ floor_of (r *ℤ pos 65536) 244140625 → units_of p ≡ w *ℤ pos (2 ^ 28) +ℤ q
units_in_two p w r q kw kr kq =
    let whole = floor-rest p 1000000000000 (omega arith) in
    let low = floor-low (r *ℤ pos 65536) 244140625 (omega arith) in
    let high = floor-high (r *ℤ pos 65536) 244140625 (omega arith) in
    let whole' : w *ℤ pos 1000000000000 +ℤ r ≡ p = cc in
    let low' : (q *ℤ pos 244140625) ≤ℤ (r *ℤ pos 65536) = rw kq low in
    let high' : (r *ℤ pos 65536) <ℤ (q *ℤ pos 244140625 +ℤ pos 244140625) = rw kq high in
    floor_only (p *ℤ pos (2 ^ 28)) (w *ℤ pos (2 ^ 28) +ℤ q) 1000000000000 (omega (arith, ints)) (omega (arith, ints))

-- how large the two are
pub whole_most : (p w : ℤ) → w ≡ floor_of p 1000000000000 → unsigned_abs p ≤ 2 ^ 63 → unsigned_abs w ≤ 2 ^ 24
whole_most p w k h =
    let low : (w *ℤ pos 1000000000000) ≤ℤ p = rw k (floor-low p 1000000000000 (omega arith)) in
    let high : p <ℤ (w *ℤ pos 1000000000000 +ℤ pos 1000000000000) = rw k (floor-high p 1000000000000 (omega arith)) in
    omega (arith, ints)

pub rest_most : (r q : ℤ) → q ≡ floor_of (r *ℤ pos 65536) 244140625 → pos 0 ≤ℤ r → r <ℤ pos 1000000000000 → unsigned_abs q ≤ 2 ^ 29
rest_most r q k l h =
    let low : (q *ℤ pos 244140625) ≤ℤ (r *ℤ pos 65536) = rw k (floor-low (r *ℤ pos 65536) 244140625 (omega arith)) in
    let high : (r *ℤ pos 65536) <ℤ (q *ℤ pos 244140625 +ℤ pos 244140625) = rw k (floor-high (r *ℤ pos 65536) 244140625 (omega arith)) in
    omega (arith, ints)
