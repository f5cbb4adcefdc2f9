-- How errors grow through gains and sums. A value z, in units, stands for t over b.
use Rattle.std.proofs.Common.{arith, ◌≡◌, ◌≤◌, ℕ, ℤ, pos, ◌+ℤ◌, ◌-ℤ◌, ◌*ℤ◌, ◌+◌, ◌*◌, ap, ◌∙◌, unsigned_abs}
use Rattle.std.proofs.lemmas.Int.{ints, unsigned_abs-mul}
use Rattle.std.proofs.Math.Nat.{mul-le-mul_right}
use borrow.Author.Differences.{product_is}
use Rattle.spec_gains.specs.Gains.{one}
use Rattle.spec_demix.specs.Floor.{unit}
use Rattle.spec_demix.proofs.Near.{Near}
use Rattle.spec_demix.proofs.FloorLemmas.{distribute, distribute_minus, swapped, swapped_left, floor_near}
use Rattle.spec_play.specs.FixedMix.{gained}

-- an error times a number
grown : (e : ℤ) (k b g : ℕ) → Near k b e → Near (k * g) b (e *ℤ pos g)
grown e k b g near =
    let m : unsigned_abs (e *ℤ pos g) ≡ unsigned_abs e * g = unsigned_abs-mul e (pos g) in
    let n = mul-le-mul_right g near in
    omega arith

-- after a gain the error is at most m units
pub gained_near : (z t : ℤ) (b g k m : ℕ) → Near k b (z *ℤ pos b -ℤ pos unit *ℤ t) → k * g + one ≤ m * one
    → Near m (b * one) (gained z g *ℤ pos (b * one) -ℤ pos unit *ℤ (t *ℤ pos g))
gained_near z t b g k m near fits =
    let low : Near one b (pos one *ℤ (gained z g *ℤ pos b) -ℤ (z *ℤ pos g) *ℤ pos b) = floor_near (z *ℤ pos g) one b (omega arith) in
    let high : Near (k * g) b ((z *ℤ pos b -ℤ pos unit *ℤ t) *ℤ pos g) = grown (z *ℤ pos b -ℤ pos unit *ℤ t) k b g near in
    let d = distribute_minus (z *ℤ pos b) (pos unit *ℤ t) (pos g) in
    let s = swapped z b g in
    let u = swapped_left t unit g in
    let w : gained z g *ℤ pos (b * one) ≡ pos one *ℤ (gained z g *ℤ pos b) = omega (arith, ints) in
    let size : (k * g + one) * b ≤ (m * one) * b = mul-le-mul_right b fits in
    omega (arith, ints)

-- times two numbers
times_both : (f : ℤ) (a b : ℕ) → f *ℤ pos (a * b) ≡ (f *ℤ pos a) *ℤ pos b
times_both f a b =
    let left = product_is f (pos a) in
    let whole = product_is f (pos (a * b)) in
    let p = ap (λ x. x * b) left.0 in
    let q = ap (λ x. x * b) left.1 in
    omega (arith, ints)

-- the error of a sum is at most the sum of the errors
pub plus_near : (f g t v : ℤ) (a b k m : ℕ) → Near k a (f *ℤ pos a -ℤ pos unit *ℤ t) → Near m b (g *ℤ pos b -ℤ pos unit *ℤ v)
    → Near (k + m) (a * b) ((f +ℤ g) *ℤ pos (a * b) -ℤ pos unit *ℤ (t *ℤ pos b +ℤ v *ℤ pos a))
plus_near f g t v a b k m first second =
    let x : Near (k * b) a ((f *ℤ pos a -ℤ pos unit *ℤ t) *ℤ pos b) = grown (f *ℤ pos a -ℤ pos unit *ℤ t) k a b first in
    let y : Near (m * a) b ((g *ℤ pos b -ℤ pos unit *ℤ v) *ℤ pos a) = grown (g *ℤ pos b -ℤ pos unit *ℤ v) m b a second in
    let d = distribute_minus (f *ℤ pos a) (pos unit *ℤ t) (pos b) in
    let e = distribute_minus (g *ℤ pos b) (pos unit *ℤ v) (pos a) in
    let s = distribute f g (pos (a * b)) in
    let p = times_both f a b in
    let q : g *ℤ pos (a * b) ≡ (g *ℤ pos b) *ℤ pos a = times_both g a b ∙ swapped g a b in
    let u = swapped_left t unit b in
    let w = swapped_left v unit a in
    omega (arith, ints)
