use Rattle.std.proofs.Common.{arith, ◌≡◌, ◌<◌, ◌+◌, ◌++◌, ℕ, length, take, drop, map, set, sym, subst, ◌∙◌, to_z, of_z, w64}
use Rattle.std.specs.List.{range_with_len}
use Rattle.std.proofs.lemmas.Int.{ints}
use Rattle.iamf_bits.specs.Rows.{sample_of}
use Rattle.iamf_mixing.proofs.Samples.{tick_more, tick_of_one, tick_of_two}
use Rattle.iamf_mixing.proofs.coded.put_tick.Goals as goal

pub loop-c-preserved : goal.loop-c-preserved
loop-c-preserved c =
    let read : to_z w64 (of_z w64 c.at-in-loop-c.result) ≡ c.at-in-loop-c.result = omega (arith, ints) in
    let room : c.args.at + c.loop-c.c < length c.args.row.now = omega arith in
    tick_more c.args.row.now c.loop-c.row c.args.at c.loop-c.c (λ k. sample_of c.args.planes.now k c.args.n) (to_z w64 (of_z w64 c.at-in-loop-c.result)) room c.loop-c.invariant (read ∙ c.at-in-loop-c.ensures)

pub returns-in-1 : goal.returns-in-1
returns-in-1 c =
    let row = c.args.row.now in
    let at = c.args.at in
    let one : c.args.planes.now.channels ≡ 1 = omega arith in
    let read : to_z w64 (of_z w64 c.at.result) ≡ c.at.result = omega (arith, ints) in
    let room : at < length row = omega arith in
    subst (λ (k : ℕ). set row at (to_z w64 (of_z w64 c.at.result)) ≡ take at row ++ (map (λ c'. sample_of c.args.planes.now c' c.args.n) (range_with_len 0 k) ++ drop (at + k) row)) (sym one)
    (tick_of_one row at (λ k. sample_of c.args.planes.now k c.args.n) _ room (read ∙ c.at.ensures))

pub returns-in-2 : goal.returns-in-2
returns-in-2 c =
    let row = c.args.row.now in
    let at = c.args.at in
    let two : c.args.planes.now.channels ≡ 2 = omega arith in
    let left : to_z w64 (of_z w64 c.at-in-2.result) ≡ c.at-in-2.result = omega (arith, ints) in
    let right : to_z w64 (of_z w64 c.at-in-2-2.result) ≡ c.at-in-2-2.result = omega (arith, ints) in
    let room : at + 1 < length row = omega arith in
    subst (λ (k : ℕ). set (set row at (to_z w64 (of_z w64 c.at-in-2.result))) (at + 1) (to_z w64 (of_z w64 c.at-in-2-2.result)) ≡ take at row ++ (map (λ c'. sample_of c.args.planes.now c' c.args.n) (range_with_len 0 k) ++ drop (at + k) row)) (sym two)
    (tick_of_two row at (λ k. sample_of c.args.planes.now k c.args.n) _ _ room (left ∙ c.at-in-2.ensures) (right ∙ c.at-in-2-2.ensures))
