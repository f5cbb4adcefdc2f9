use Rattle.std.proofs.Common.{arith, rules, ◌≡◌, ◌≤◌, ◌^◌, pos, ◌+ℤ◌, ◌*ℤ◌, unsigned_abs, FitsSigned, refl, ◌∙◌}
use Rattle.std.specs.Int.{w64, w128}
use Rattle.std.proofs.lemmas.Int.{ints, to_z-of_z}
use Rattle.spec_demix.specs.Floor.{floor_of}
use Rattle.mix_fixed.proofs.QuietLemmas.{doubled, doubled_size, doubled_floor}
use Rattle.mix_fixed.proofs.narrow.part_of.Goals as goal

-- the word of the product, and that it is small
word : (c : goal.After-high_word) → (c.high_word.result ≡ floor_of (c.args.y *ℤ c.args.rest +ℤ pos (2 ^ 31)) (2 ^ 63)) × (unsigned_abs c.high_word.result ≤ 2 ^ 32)
word c =
    let y = c.args.y in
    let r = c.args.rest in
    let short = c.requires.short in
    let fy : FitsSigned w64 y = c.ranges.y in
    let fr : FitsSigned w64 r = c.ranges.rest in
    let twice : FitsSigned w64 (pos 2 *ℤ y) = omega (arith, ints, short) in
    let f1 : FitsSigned w128 c.from.result = search rules in
    let f2 : FitsSigned w128 c.from-2.result = search rules in
    let ky : c.from.result ≡ pos 2 *ℤ y = simp to_z-of_z at c.from.ensures in
    let kr : c.from-2.result ≡ r = simp to_z-of_z at c.from-2.ensures in
    let m = doubled_size y r short (omega (arith, ints, fr)) in
    let fp : FitsSigned w128 ((pos 2 *ℤ y) *ℤ r) = omega (arith, ints, m) in
    let fs : FitsSigned w128 ((pos 2 *ℤ y) *ℤ r +ℤ pos 4294967296) = omega (arith, ints, m) in
    let fa : FitsSigned w128 (c.from.result *ℤ c.from-2.result) = rw (ky, kr) fp in
    let fb : FitsSigned w128 (c.from.result *ℤ c.from-2.result +ℤ pos 4294967296) = rw (ky, kr) fs in
    let h = simp to_z-of_z at c.high_word.ensures in
    let k : floor_of (c.from.result *ℤ c.from-2.result +ℤ pos 4294967296) 18446744073709551616 ≡ floor_of ((pos 2 *ℤ y) *ℤ r +ℤ pos 4294967296) 18446744073709551616 = rw (ky, kr) refl in
    (h ∙ k ∙ doubled y r, rw (h ∙ k) (doubled_floor ((pos 2 *ℤ y) *ℤ r) m))

pub returns : goal.returns
returns c =
    let small = (word c).1 in
    let f : FitsSigned w128 c.high_word.result = search rules in
    let fw : FitsSigned w64 c.high_word.result = omega (arith, ints, small) in
    simp to_z-of_z (record { value = (word c).0; small = small })
