use Rattle.std.proofs.Common.{rules, inl, inr, subst, sym}
use Rattle.std.specs.Prelude.{true, false}
use Rattle.mix_fixed.specs.declared.scaled.ScaledBed.{ScaledBed}
use Rattle.mix_fixed.specs.Scaled.{scaled_bed}
use Rattle.mix_fixed.specs.Quiet.{OfBed, IsBelow, IsQuiet}
use Rattle.mix_fixed.proofs.QuietLemmas.{calm_quiet, short_quiet}
use Rattle.mix_fixed.proofs.kernel.write.Goals as goal

pub write_narrow-requires : goal.write_narrow-requires
write_narrow-requires g c =
    let coded = c.args.coded.now in
    let most = c.args.most in
    let e = c.requires.prepared.scaled_is in
    let below = subst (λ (s : ScaledBed). OfBed (IsBelow most) s) e c.requires.prepared.most_is in
    let calm = c.is_whole.ensures.calm c.if-is_whole.true in
    let none = c.is_whole.ensures.none c.if-is_whole.true in
    let quiet = subst (λ (s : ScaledBed). OfBed (IsQuiet true coded) s) (sym e) (calm_quiet true coded most c.args.origins.now.sent c.requires.samples calm (λ t. none) below c.requires.within) in
    search rules

pub write_narrow-requires-then-are_held : goal.write_narrow-requires-then-are_held
write_narrow-requires-then-are_held g c =
    let coded = c.args.coded.now in
    let most = c.args.most in
    let e = c.requires.prepared.scaled_is in
    let below = subst (λ (s : ScaledBed). OfBed (IsBelow most) s) e c.requires.prepared.most_is in
    let held : OfBed (IsQuiet false coded) (scaled_bed c.args.origins.now.sent) = elim (c.are_held.ensures c.if-are_held.true) [
      | inl calm ↦ calm_quiet false coded most c.args.origins.now.sent c.requires.samples calm (λ t. absurd (cc)) below c.requires.within
      | inr short ↦ short_quiet coded most c.args.origins.now.sent short below c.requires.within
    ] in
    let quiet = subst (λ (s : ScaledBed). OfBed (IsQuiet false coded) s) (sym e) held in
    search rules
