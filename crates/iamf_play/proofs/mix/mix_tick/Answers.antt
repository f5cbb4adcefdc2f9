use Rattle.std.proofs.Common.{arith, ◌<◌, ℕ, ℤ, sym, ap, subst, ◌∙◌, length, ◌+◌, ◌*◌, ◌≤◌}
use Rattle.spec_play.specs.Mixes.{unit_length}
use Rattle.spec_play.specs.FixedMix.{gained, fixed_sum}
use Rattle.iamf_play.specs.Mixing.{place}
use Rattle.iamf_play.proofs.MixedUnits.{mix_is, tick_filled}
use Rattle.iamf_play.proofs.MixSteps.{output_low}
use Rattle.iamf_play.proofs.mix.mix_tick.Goals as goal

pub apply_output-requires-clause-gain : goal.apply_output-requires-clause-gain
apply_output-requires-clause-gain c = let at = c.requires.at in subst (λ g. g ≤ 39810717055340) (sym at.3.output) (output_low at.1 (at.2 * unit_length at.1 + c.args.n) at.3.at.playable)

pub returns-clause-value : goal.returns-clause-value
returns-clause-value c = λ s r u tick.
    let wide = tick.at.wide in
    tick_filled r u c.args.n c.apply_output.new.sums (omega (arith, wide)) (λ k h.
    let inside : k < length c.add_elements.new.sums = omega arith in
    let first : k < length c.args.sums.now = omega arith in
    c.apply_output.ensures.value k inside
    ∙ ap (λ (z : ℤ). gained z c.args.gain) (c.add_elements.ensures.value s r u tick.at tick.tick k first)
    ∙ ap (λ (g : ℕ). gained (fixed_sum r (place u c.args.n k) r.elements) g) tick.output
    ∙ sym (mix_is r (place u c.args.n k)))
