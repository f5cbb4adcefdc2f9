use Rattle.std.proofs.Common.{arith, ◌≡◌, to_z, of_z, ap, sym, ◌∙◌}
use mir.Syntax.{w16}
use Rattle.std.proofs.lemmas.Int.{ints}
use Rattle.spec_gains.specs.Gains.{gain_of}
use Rattle.iamf_mixing.proofs.track.GainTrack.begin.Goals as goal

pub returns : goal.returns
returns c = λ r gain u default ends on.
    let same : to_z w16 (of_z w16 c.args.default) ≡ c.args.default = omega (arith, ints) in
    let level = c.gain-level.ensures.value ∙ ap gain_of (same ∙ sym default) in
    record {
      on = on;
      done = λ k h before. absurd (omega arith);
      open_to = λ k h past. c.loop-slot.invariant k (omega arith) ∙ level;
    }
