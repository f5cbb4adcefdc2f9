use Rattle.std.proofs.Common.{arith, rules, ◌≡◌, ◌≤◌, ◌+◌, ◌*◌, ◌/◌, ℕ, ℤ, pos, ◌+ℤ◌, ◌*ℤ◌, unsigned_abs, FitsSigned, sym, refl}
use Rattle.std.specs.Int.{w64}
use Rattle.std.proofs.lemmas.Int.{ints, to_z-of_z}
use Rattle.std.proofs.Math.Nat.{mul-le-mul}
use Rattle.spec_demix.specs.Floor.{floor_of}
use Rattle.mix_fixed.specs.Quiet.{hundredth}
use Rattle.mix_fixed.proofs.Held.{held}
use Rattle.mix_fixed.proofs.FloorParts.{over_split, over_fits, rest_small}
use Rattle.mix_fixed.proofs.floors.over_parts.Goals as goal

-- the product and the sum fit 64 bits, and what the sum is
parts : (k n r : ℕ) (x q a b : ℤ) → a ≡ pos k → b ≡ pos (k * r / n) → k ≤ 1000 → 707 ≤ n → r ≤ 2000 → unsigned_abs x ≤ 840 * hundredth → FitsSigned w64 q
    → unsigned_abs q * 707 ≤ unsigned_abs (held x) + 2000 → q *ℤ pos n +ℤ pos r ≡ held x
    → FitsSigned w64 (held a *ℤ held q) × FitsSigned w64 (held (held a *ℤ held q) +ℤ held b) × (held (held (held a *ℤ held q) +ℤ held b) ≡ floor_of (pos k *ℤ x) n)
parts k n r x q a b ka kb few least rest small fq close whole =
    let fx : FitsSigned w64 x = omega (arith, ints, small) in
    let near = simp to_z-of_z at close in
    let split = simp to_z-of_z at whole in
    let fits = over_fits k x q r n few least near rest small in
    let most : k * r ≤ 1000 * 2000 = mul-le-mul few rest in
    let less = rest_small (k * r) n (omega (arith, least)) in
    let fa : FitsSigned w64 a = omega (arith, ints, ka, few) in
    let fb : FitsSigned w64 b = omega (arith, ints, kb, most, less) in
    let product : FitsSigned w64 (a *ℤ q) = rw ka fits.0 in
    let sum : FitsSigned w64 (a *ℤ q +ℤ b) = rw (ka, kb) fits.1 in
    (simp to_z-of_z product, simp to_z-of_z sum, simp to_z-of_z (rw (ka, kb) (sym (over_split k x q r n (omega (arith, least)) split))))

pub overflow_mul-result : goal.overflow_mul-result
overflow_mul-result c =
    (parts _ _ _ c.args.x _ _ _ c.from.ensures refl c.requires.times c.requires.least c.split-whole.ensures.rest c.requires.small (search rules) c.split-whole.ensures.small c.split-whole.ensures.whole).0

pub overflow_add-result : goal.overflow_add-result
overflow_add-result c =
    (parts _ _ _ c.args.x _ _ _ c.from.ensures c.from-2.ensures c.requires.times c.requires.least c.split-whole.ensures.rest c.requires.small (search rules) c.split-whole.ensures.small c.split-whole.ensures.whole).1

pub returns : goal.returns
returns c =
    (parts _ _ _ c.args.x _ _ _ c.from.ensures c.from-2.ensures c.requires.times c.requires.least c.split-whole.ensures.rest c.requires.small (search rules) c.split-whole.ensures.small c.split-whole.ensures.whole).2
