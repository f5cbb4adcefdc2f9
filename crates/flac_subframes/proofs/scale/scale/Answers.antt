use Rattle.spec_flac.specs.Subframe.{scaled}
use Rattle.std.proofs.Common.{◌≡◌, ℕ, ◌-◌, ◌^◌, ℤ, pos, ◌*ℤ◌, get_or, arith, rules, FitsSigned, w64, to_z-of_z, sym, ap, ◌∙◌, subst}
use Rattle.flac_subframes.proofs.WholeSubframes.{scaled_none, map_from, scaled_fits, within_scaled, half_fits, done_more, left_same}
use Rattle.flac_subframes.proofs.scale.scale.Goals as goal

pub times_power-requires-clause-small : goal.times_power-requires-clause-small
times_power-requires-clause-small c =
    let old = get_or c.args.row.now c.loop-n.n (pos 0) in
    let same : get_or c.loop-n.row c.loop-n.n (pos 0) ≡ old = c.loop-n.invariant.left c.loop-n.n (omega arith) in
    let fits : FitsSigned w64 old = half_fits old (c.args.depth - c.args.wasted) (omega arith) (c.requires.small c.loop-n.n) in
    rw (same, to_z-of_z fits) (scaled_fits old c.args.depth c.args.wasted c.requires.low c.requires.high c.requires.below (c.requires.small c.loop-n.n))

pub loop-n-preserved : goal.loop-n-preserved
loop-n-preserved c =
    let old = get_or c.args.row.now c.loop-n.n (pos 0) in
    let same : get_or c.loop-n.row c.loop-n.n (pos 0) ≡ old = c.loop-n.invariant.left c.loop-n.n (omega arith) in
    let fits : FitsSigned w64 old = half_fits old (c.args.depth - c.args.wasted) (omega arith) (c.requires.small c.loop-n.n) in
    let f : FitsSigned w64 (get_or c.loop-n.row c.loop-n.n (pos 0)) = subst (FitsSigned w64) (sym same) fits in
    let g : FitsSigned w64 c.times_power.result = search rules in
    let is = simp to_z-of_z at c.times_power.ensures.is in
    simp to_z-of_z (record {
      done = done_more (λ z. z *ℤ pos (2 ^ c.args.wasted)) c.loop-n.row c.args.row.now c.loop-n.n c.times_power.result (omega arith) (is ∙ ap (λ (z : ℤ). z *ℤ pos (2 ^ c.args.wasted)) same) c.loop-n.invariant.done;
      left = left_same c.loop-n.row c.args.row.now c.loop-n.n c.times_power.result c.loop-n.invariant.left;
    })

pub returns-clause-scaled : goal.returns-clause-scaled
returns-clause-scaled c = map_from (λ z. z *ℤ pos (2 ^ c.args.wasted)) c.loop-n.row c.args.row.now (omega arith) (λ i lt. c.loop-n.invariant.done i (omega arith))

pub returns-clause-small : goal.returns-clause-small
returns-clause-small c = within_scaled c.args.depth c.args.wasted c.loop-n.row c.args.row.now c.requires.low c.requires.high c.requires.below (omega arith) c.requires.small (λ i lt. c.loop-n.invariant.done i (omega arith))

pub returns-then-wasted-eq0-clause-scaled : goal.returns-then-wasted-eq0-clause-scaled
returns-then-wasted-eq0-clause-scaled c = subst (λ (k : ℕ). c.args.row.now ≡ scaled k c.args.row.now) (sym c.if-wasted-eq0.true) (scaled_none c.args.row.now)
