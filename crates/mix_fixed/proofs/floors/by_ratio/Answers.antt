use Rattle.std.proofs.Common.{arith, rules, ◌≡◌, ◌≤◌, ◌^◌, pos, ◌+ℤ◌, ◌*ℤ◌, unsigned_abs, FitsSigned, to_z, of_z, ap, refl, ◌∙◌}
use Rattle.std.specs.Int.{w64, w128}
use Rattle.std.proofs.lemmas.Int.{ints, to_z-of_z}
use Rattle.spec_demix.specs.Floor.{floor_of}
use Rattle.mix_fixed.proofs.Held.{held}
use Rattle.mix_fixed.proofs.RatioLemmas.{ratio_size, word_size}
use Rattle.mix_fixed.proofs.floors.by_ratio.Goals as goal

-- what the word of the product is, and that it is small
word : (c : goal.After-high_word) → (c.high_word.result ≡ floor_of (c.args.x *ℤ c.args.ratio +ℤ pos 9007199254740992) 18446744073709551616) × (unsigned_abs c.high_word.result ≤ 2 ^ 53)
word c =
    let x = c.args.x in
    let r = c.args.ratio in
    let fx : FitsSigned w64 x = c.ranges.x in
    let fr : FitsSigned w64 r = c.ranges.ratio in
    let kx : c.from.result ≡ x = simp to_z-of_z at c.from.ensures in
    let kr : c.from-2.result ≡ r = simp to_z-of_z at c.from-2.ensures in
    let m = ratio_size x r c.requires (omega (arith, ints, fr)) in
    let fp : FitsSigned w128 (x *ℤ r) = omega (arith, ints, m) in
    let fs : FitsSigned w128 (x *ℤ r +ℤ pos 9007199254740992) = omega (arith, ints, m) in
    let f1 : FitsSigned w128 c.from.result = search rules in
    let f2 : FitsSigned w128 c.from-2.result = search rules in
    let fa : FitsSigned w128 (c.from.result *ℤ c.from-2.result) = rw (kx, kr) fp in
    let fb : FitsSigned w128 (c.from.result *ℤ c.from-2.result +ℤ pos 9007199254740992) = rw (kx, kr) fs in
    let h = simp to_z-of_z at c.high_word.ensures in
    let k : floor_of (c.from.result *ℤ c.from-2.result +ℤ pos 9007199254740992) 18446744073709551616 ≡ floor_of (x *ℤ r +ℤ pos 9007199254740992) 18446744073709551616 = rw (kx, kr) refl in
    let e : c.high_word.result ≡ floor_of (x *ℤ r +ℤ pos 9007199254740992) 18446744073709551616 = h ∙ k in (e, rw e (word_size (x *ℤ r) m))

-- the sum fits 64 bits, which hold it
sum_fits : (c : goal.After-high_word) → FitsSigned w64 (c.args.x +ℤ c.high_word.result)
sum_fits c = let small = (word c).1 in let few = c.requires in omega (arith, ints, small, few)

sum_is : (c : goal.After-high_word) → held c.args.x +ℤ held (to_z w128 (of_z w128 c.high_word.result)) ≡ c.args.x +ℤ c.high_word.result
sum_is c =
    let small = (word c).1 in
    let fx : FitsSigned w64 c.args.x = c.ranges.x in
    let f : FitsSigned w128 c.high_word.result = search rules in
    let fw : FitsSigned w64 c.high_word.result = omega (arith, ints, small) in
    simp to_z-of_z

pub overflow_add-result : goal.overflow_add-result
overflow_add-result c = rw (sum_is c) (sum_fits c)

pub returns : goal.returns
returns c = rw (sum_is c, to_z-of_z w64 _ (sum_fits c)) (ap (λ t. c.args.x +ℤ t) (word c).0)
