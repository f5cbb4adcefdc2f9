use Rattle.std.proofs.Common.{arith, ◌≡◌, ◌<◌, ◌≤◌, ◌+◌, ◌-◌, ◌∙◌, ap, rules, slice_index, SFits, to_z, of_z}
use mir.Syntax.{w16}
use Rattle.std.proofs.lemmas.Int.{ints}
use Rattle.spec_gains.specs.Gains.{gain_of}
use Rattle.spec_blocks.specs.ParameterBlock.{Linear}
use Rattle.spec_play.specs.GainsOverTime.{part_gain}
use Rattle.iamf_mixing.proofs.Subblocks.{line_is}
use Rattle.iamf_mixing.proofs.gains.fill_part.Goals as goal

pub returns-in-Linear-clause-inside : goal.returns-in-Linear-clause-inside
returns-in-Linear-clause-inside c = λ k h begun going_on.
    let from : c.place-from.result ≤ k = omega arith in
    let to : k < c.place-to.result = omega arith in
    let ticks : c.saturating_sub.result + (k - c.place-from.result) ≡ c.args.first + k - c.args.start = omega arith in
    let value = c.fill_line.ensures.inside k from to in
    let low_fits : SFits w16 c.in-Linear.low = search rules in
    let high_fits : SFits w16 c.in-Linear.high = search rules in
    let low : to_z w16 (of_z w16 c.in-Linear.low) ≡ c.in-Linear.low = omega (arith, ints) in
    let high : to_z w16 (of_z w16 c.in-Linear.high) ≡ c.in-Linear.high = omega (arith, ints) in
    let first = c.gain-in-Linear.ensures.value ∙ ap gain_of low in
    let last = c.gain-in-Linear-2.ensures.value ∙ ap gain_of high in
    let tick = c.args.first + k - c.args.start in
    let line : slice_index c.fill_line.new.row k ≡ part_gain c.from.result (Linear c.in-Linear.low c.in-Linear.high) tick = value ∙ line_is c.from.result _ tick _ _ c.in-Linear.low c.in-Linear.high ticks first last in
    let whole = line ∙ ap (λ n. part_gain n (Linear c.in-Linear.low c.in-Linear.high) tick) c.from.ensures in
    rw (c.in-Linear.is) whole
