use Rattle.std.proofs.Common.{arith, ◌<◌, ◌≤◌, ◌-◌, ◌*◌, ◌/◌, ◌^◌, sym, ap, subst, ◌∙◌, length, take}
use Rattle.std.proofs.lemmas.List.{length-take-le}
use Rattle.spec_play.specs.Mixes.{Rendition}
use Rattle.spec_play.specs.Waves.{wave_shape}
use Rattle.iamf_select.specs.PlanView.{IsSelected}
use Rattle.iamf_select.proofs.Plans.{one_rendition}
use Rattle.iamf_play.specs.Playback.{PlayerValue}
use Rattle.iamf_play.specs.Reserving.{IsReserved, HasPlayed}
use Rattle.iamf_play.proofs.ReservedSteps.{channels_of, depth_of, values_low, bytes_low, bytes_fit}
use Rattle.iamf_play.proofs.player.Player.bytes.Goals as goal
use Rattle.iamf_play.proofs.player.Player.bytes.Goals.{After-from}

-- what was played of the rendition that is heard
heard_played : (c : After-from) → HasPlayed c.self.invariant.heard (c.args.self.now.played - 1) c.self.inside.reserved
heard_played c =
    let begun = ap (λ (x : PlayerValue). x.played) c.self.view_is in
    c.self.invariant.last (c.args.self.now.played - 1) (omega (arith, begun, c.requires))

pub overflow_mul-values : goal.overflow_mul-values
overflow_mul-values c =
    let v = c.self.inside.reserved in
    let here = c.self.invariant in
    let played = heard_played (goal.at.overflow_mul-values c).After-from in
    let low = subst (λ n. v.kept * n < 2 ^ 26) (sym c.from.ensures) (values_low _ here.heard _ _ v here.reserved played) in
    omega (arith, low)

pub overflow_mul-result : goal.overflow_mul-result
overflow_mul-result c =
    let v = c.self.inside.reserved in
    let here = c.self.invariant in
    let played = heard_played (goal.at.overflow_mul-result c).After-from in
    let low = subst (λ n. v.kept * n * c.from-2.result < 2 ^ 30) (sym c.from.ensures) (subst (λ n. v.kept * v.shape.channels * n < 2 ^ 30) (sym c.from-2.ensures) (bytes_fit _ here.heard _ _ v here.reserved played)) in
    omega (arith, low)

pub slice_bounds-result-end : goal.slice_bounds-result-end
slice_bounds-result-end c =
    let v = c.self.inside.reserved in
    let here = c.self.invariant in
    let played = heard_played (goal.at.slice_bounds-result-end c).After-from in
    let low = subst (λ n. v.kept * n * c.from-2.result ≤ length v.bytes.items) (sym c.from.ensures) (subst (λ n. v.kept * v.shape.channels * n ≤ length v.bytes.items) (sym c.from-2.ensures) (bytes_low _ here.heard _ _ v here.reserved played)) in
    let inside = subst (λ bs. v.kept * c.from.result * c.from-2.result ≤ length bs) (sym c.as_slice.ensures.value) low in
    sym (length-take-le (v.kept * c.from.result * c.from-2.result) c.as_slice.result.now inside)

pub returns : goal.returns
returns c = λ r is.
    let v = c.self.inside.reserved in
    let u = c.args.self.now.played - 1 in
    let here = c.self.invariant in
    let selected = subst (λ (x : PlayerValue). IsSelected x.plan here.heard) c.self.view_is here.selected in
    let same = one_rendition c.args.self.now.plan r here.heard is selected in
    let played = subst (λ (q : Rendition). HasPlayed q u v) same (heard_played (goal.at.returns c).After-from) in
    let reserved = subst (λ (q : Rendition). IsReserved c.self.inside.plan.sequence q c.self.inside.played v) same here.reserved in
    ap (take (v.kept * c.from.result * c.from-2.result)) c.as_slice.ensures.value
    ∙ ap (λ n. take (v.kept * n * c.from-2.result) v.bytes.items) (c.from.ensures ∙ channels_of _ r _ v reserved)
    ∙ ap (λ n. take (v.kept * (wave_shape r).channels * n) v.bytes.items) (c.from-2.ensures ∙ ap (λ n. n / 8) (depth_of _ r _ v reserved))
    ∙ played.bytes
