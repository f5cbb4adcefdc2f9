use Rattle.std.proofs.Common.{arith, ◌≡◌, ◌+◌, ◌*◌, ◌/◌, ℤ, pos, length, take, drop, ◌++◌, get_or, to_z, of_z, subst, ap, ◌∙◌, unsigned_abs, ◌<◌, ◌^◌}
use Rattle.std.proofs.lemmas.Int.{ints}
use mir.Syntax.{w32, w128}
use Rattle.spec_demix.specs.Rounding.{clipped, rounded}
use Rattle.spec_waves.specs.Wave.{sample_bytes}
use Rattle.iamf_mixing.proofs.Samples.{put_more}
use Rattle.iamf_mixing.proofs.output.put_each.Goals as goal

pub loop-i-preserved : goal.loop-i-preserved
loop-i-preserved c =
    let depth = c.args.depth in
    let i = c.loop-i.i in
    let size = c.from-size.result in
    let before = c.loop-i.bytes in
    let z = c.sample_of.result in
    let mixed = get_or c.args.mixed.now i (pos 0) in
    let most : unsigned_abs mixed < 2 ^ 126 = c.requires.mixed i (pos 0) c.loop-i-test.true in
    let read : to_z w128 (of_z w128 mixed) ≡ mixed = omega (arith, ints) in
    let sample : to_z w32 (of_z w32 z) ≡ z = omega (arith, ints) in
    let long : length before ≡ length c.args.mixed.now * (depth / 8) = omega arith in
    let value = c.sample_of.ensures.value ∙ ap (λ m. clipped depth (rounded m)) read in
    let put = subst (λ (v : ℤ). c.put_sample.new.into ≡ take (i * size) before ++ (sample_bytes depth v ++ drop (i * size + depth / 8) before)) sample c.put_sample.ensures in
    put_more depth i size c.args.mixed.now before c.put_sample.new.into z c.from-size.ensures c.loop-i-test.true long value put c.loop-i.invariant
