use Rattle.std.proofs.Common.{arith, ◌≡◌, ◌≤◌, ◌+◌, ◌*◌, ℕ, ℤ, List, length, ap}
use Rattle.std.proofs.Math.Nat.{mul-le-mul_right}
use Rattle.std.proofs.lemmas.Grind.{common_steps}
use Rattle.std.proofs.lemmas.List.{length-take, length-drop}
use Rattle.spec_samples.specs.Lpcm.{sample}
use Rattle.iamf_mixing.proofs.Frames.{row_more}
use Rattle.iamf_mixing.proofs.coded.read_rows.Goals as goal

pub loop-c-preserved : goal.loop-c-preserved
loop-c-preserved c =
    let at = c.loop-c.c in
    let ticks = c.length-ticks.result in
    let channels = c.channels-channels.result in
    let more = mul-le-mul_right ticks (let h : at + 1 ≤ channels = omega arith in h) in
    let size : channels * ticks ≡ c.args.rows.now.channels * ticks = ap (λ (k : ℕ). k * ticks) c.channels-channels.ensures.is in
    let whole = c.length-ticks.ensures.whole in
    let lent : length c.samples_mut-samples.result.now ≡ length c.args.rows.now.samples = ap (λ (xs : List ℤ). length xs) c.samples_mut-samples.ensures.value in
    let room : (at + 1) * ticks ≤ length c.loop-c.samples = omega (arith, more) in
    let long : length c.read_row.new.row ≡ ticks = first_of (omega (arith, more), omega (arith, more, length-take {A = ℤ}, length-drop {A = ℤ}), grind (arith, common_steps)) in
    row_more c.loop-c.samples c.read_row.new.row at ticks _ (λ m d. sample c.args.bytes.now c.args.little c.args.depth channels m d) room long c.loop-c.invariant (λ m h. c.read_row.ensures m (omega arith))
