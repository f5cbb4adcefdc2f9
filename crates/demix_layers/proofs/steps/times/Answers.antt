use Rattle.std.proofs.Common.{arith, rules, ◌≤◌, ◌*◌, ◌^◌, pos, ◌*ℤ◌, unsigned_abs, FitsSigned}
use Rattle.std.specs.Int.{w128}
use Rattle.std.proofs.Math.Nat.{mul-le-mul_left}
use Rattle.std.proofs.lemmas.Int.{ints, to_z-of_z, unsigned_abs-mul}
use Rattle.demix_layers.proofs.steps.times.Goals as goal

pub returns-clause-most : goal.returns-clause-most
returns-clause-most c =
    let k = c.args.coefficient in
    let sent : FitsSigned w128 c.args.sent = c.ranges.sent in
    let from : FitsSigned w128 c.from.result = search rules in
    let small : unsigned_abs c.args.sent ≤ 2 ^ 77 = omega (arith, c.requires) in
    let p : unsigned_abs (pos k *ℤ c.args.sent) ≤ k * 2 ^ 77 = rw unsigned_abs-mul (mul-le-mul_left k small) in
    let q : unsigned_abs (c.from.result *ℤ c.args.sent) ≤ k * 2 ^ 77 = rw c.from.ensures p in
    let f : FitsSigned w128 (c.from.result *ℤ c.args.sent) = omega (arith, ints, q) in
    simp to_z-of_z q
