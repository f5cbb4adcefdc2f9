use Rattle.std.proofs.Common.{arith, ◌≡◌, ◌<◌, ◌+◌, ◌-◌, ◌*◌, ◌^◌, ℤ, pos, to_z, of_z, sym, ap, subst, ◌∙◌, length, get_or, unsigned_abs}
use mir.Syntax.{w128}
use Rattle.std.proofs.lemmas.Int.{ints}
use Rattle.std.proofs.lemmas.List.{get_or_read}
use Rattle.spec_play.specs.Mixes.{Rendition}
use Rattle.iamf_select.specs.PlanView.{IsSelected}
use Rattle.iamf_select.proofs.Plans.{one_rendition}
use Rattle.iamf_play.specs.Playback.{PlayerValue}
use Rattle.iamf_play.specs.Reserving.{IsReserved, HasPlayed}
use Rattle.iamf_play.proofs.ReservedSteps.{channels_of, place_low, row_low, mixed_value, mixed_small}
use Rattle.iamf_play.proofs.player.Player.mixed.Goals as goal
use Rattle.iamf_play.proofs.player.Player.mixed.Goals.{After-from}

-- the rendition that is heard, and what was played of it
heard_selected : (c : After-from) → IsSelected c.args.self.now.plan c.self.invariant.heard
heard_selected c = subst (λ (x : PlayerValue). IsSelected x.plan c.self.invariant.heard) c.self.view_is c.self.invariant.selected

heard_played : (c : After-from) → HasPlayed c.self.invariant.heard (c.args.self.now.played - 1) c.self.inside.reserved
heard_played c =
    let begun = ap (λ (x : PlayerValue). x.played) c.self.view_is in
    c.self.invariant.last (c.args.self.now.played - 1) (omega (arith, begun, c.requires.begun))

row_few : (c : After-from) → c.args.n * c.from.result < 2 ^ 26
row_few c =
    let here = c.self.invariant in
    subst (λ m. c.args.n * m < 2 ^ 26) (sym c.from.ensures) (row_low _ here.heard _ _ c.args.n c.self.inside.reserved here.reserved (heard_played c) (c.requires.sample here.heard (heard_selected c)))

pub index-requires : goal.index-requires
index-requires c =
    let v = c.self.inside.reserved in
    let here = c.self.invariant in
    let selected = heard_selected (goal.at.index-requires c).After-from in
    let played = heard_played (goal.at.index-requires c).After-from in
    let low = place_low _ here.heard _ _ c.args.n c.args.c v here.reserved played (c.requires.sample here.heard selected) (c.requires.channel here.heard selected) in
    let inside = subst (λ m. c.args.n * m + c.args.c < length v.mixed.items) (sym c.from.ensures) low in
    omega (arith, inside, v.mixed.ok.0)

pub returns : goal.returns
returns c = λ r is.
    let v = c.self.inside.reserved in
    let items = v.mixed.items in
    let n = c.args.n in
    let k = c.args.c in
    let u = c.args.self.now.played - 1 in
    let here = c.self.invariant in
    let selected = heard_selected (goal.at.returns c).After-from in
    let same = one_rendition c.args.self.now.plan r here.heard is selected in
    let played = subst (λ (q : Rendition). HasPlayed q u v) same (heard_played (goal.at.returns c).After-from) in
    let reserved = subst (λ (q : Rendition). IsReserved c.self.inside.plan.sequence q c.self.inside.played v) same here.reserved in
    let low = subst (λ m. n * m + k < length items) (sym c.from.ensures) (place_low _ r _ u n k v reserved played (c.requires.sample r is) (c.requires.channel r is)) in
    let read = get_or_read items (n * c.from.result + k) c.index.result.now low c.index.ensures (pos 0) in
    let wide = c.from.ensures ∙ channels_of _ r _ v reserved in
    let found = read ∙ ap (λ m. get_or items (n * m + k) (pos 0)) wide in
    let small : unsigned_abs c.index.result.now < 2 ^ 126 = subst (λ (z : ℤ). unsigned_abs z < 2 ^ 126) (sym found) (mixed_small _ r _ u n k v reserved played (c.requires.sample r is) (c.requires.channel r is)) in
    let kept : to_z w128 (of_z w128 c.index.result.now) ≡ c.index.result.now = omega (arith, ints) in
    kept ∙ found ∙ mixed_value r u n k v played (c.requires.sample r is) (c.requires.channel r is)

pub overflow_mul-n : goal.overflow_mul-n
overflow_mul-n c = omega (arith, row_few (goal.at.overflow_mul-n c).After-from)

pub overflow_add-n : goal.overflow_add-n
overflow_add-n c =
    let here = c.self.invariant in
    let few = here.reserved.of.shape.few in
    let channel = c.requires.channel here.heard (heard_selected (goal.at.overflow_add-n c).After-from) in
    omega (arith, row_few (goal.at.overflow_add-n c).After-from, few, channel)
