use Rattle.std.proofs.Common.{arith, rules, ◌≡◌, ◌+◌, ◌*◌, ◌^◌, ◌≤◌, ℕ, suc, List, ℤ, pos, ◌+ℤ◌, ◌*ℤ◌, unsigned_abs, slice_index_or, FitsSigned, to_z, refl}
use Rattle.std.specs.Int.{w32, w64, w128}
use Rattle.std.proofs.lemmas.Int.{ints, to_z-of_z}
use Rattle.spec_demix.specs.Scenes.{coefficient, projected}
use Rattle.demix_layers.proofs.scene.projected.Goals as goal

one_more : (matrix : List ℕ) (outputs : ℕ) (coded : List ℤ) (c k : ℕ) (sum part factor : ℤ) → sum ≡ projected matrix outputs coded c k
    → part ≡ factor *ℤ slice_index_or coded k (pos 0) → factor ≡ coefficient matrix (k * outputs + c) → sum +ℤ part ≡ projected matrix outputs coded c (k + 1)
one_more matrix outputs coded c k sum part factor s p f = let n : k + 1 ≡ suc k = omega arith in rw (n, p, f, s) refl

sum_most : (sum part : ℤ) (k : ℕ) → unsigned_abs sum ≤ k * 2 ^ 46 → unsigned_abs part ≤ 2 ^ 46 → unsigned_abs (sum +ℤ part) ≤ (k + 1) * 2 ^ 46
sum_most sum part k s p = omega (arith, ints)

pub loop-k-preserved : goal.loop-k-preserved
loop-k-preserved c =
    let k = c.loop-k.k in
    let few : k ≤ 510 = omega (arith, c.requires.few) in
    let part : FitsSigned w128 c.product-sum.result = search rules in
    let factor : FitsSigned w32 c.coefficient.result = search rules in
    let sample : FitsSigned w64 (slice_index_or c.args.coded.now k (pos 0)) = search rules in
    let product = simp to_z-of_z at c.product-sum.ensures.value in
    let most = sum_most (to_z w128 c.loop-k.sum-bits) c.product-sum.result k c.loop-k.invariant.most c.product-sum.ensures.most in
    let sum : FitsSigned w128 (to_z w128 c.loop-k.sum-bits +ℤ c.product-sum.result) = omega (arith, ints, most) in
    record {
      value = simp to_z-of_z (one_more c.args.matrix.now c.args.outputs c.args.coded.now c.args.c k (to_z w128 c.loop-k.sum-bits) c.product-sum.result c.coefficient.result c.loop-k.invariant.value product c.coefficient.ensures.value);
      most = simp to_z-of_z most;
    }
