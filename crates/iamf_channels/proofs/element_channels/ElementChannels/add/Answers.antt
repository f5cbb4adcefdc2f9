use Rattle.std.proofs.Common.{rules, arith, ◌≡◌, ◌<◌, ◌≤◌, ◌-◌, ◌+◌, ◌^◌, ℤ, List, ◌++◌, take, drop, length, get_or, pos, unsigned_abs, ◌+ℤ◌, sym, ap, subst, ◌∙◌}
use Rattle.std.specs.List.{All, flat_map}
use Rattle.std.proofs.lemmas.List.{take_at}
use Rattle.spec_gains.specs.Modes.{IsMode}
use Rattle.demix_channels.specs.declared.params.DemixParams.{DemixParams}
use Rattle.spec_play.specs.FixedMix.{gained}
use Rattle.obu_descriptors.specs.ElementView.{view_element}
use Rattle.iamf_bits.specs.Rows.{Rows}
use Rattle.iamf_mixing.specs.Ticks.{tick_of}
use Rattle.iamf_mixing.specs.Sums.{base}
use Rattle.iamf_channels.specs.Heard.{ChannelsValue}
use Rattle.iamf_channels.specs.Playing.{IsPlaying}
use Rattle.iamf_channels.specs.Adding.{CanAdd, added}
use Rattle.iamf_channels.proofs.CodedRows.{AreLonger}
use Rattle.iamf_channels.proofs.PlayedElements.{each_longer, rows_longer, tick_small, tick_few, tick_can, tick_value}
use Rattle.iamf_channels.proofs.element_channels.ElementChannels.add.Goals as goal
use Rattle.iamf_channels.proofs.element_channels.ElementChannels.add.Goals.{After-as_slice, After-as_slice-2}

-- what plays, and that its planes are long enough
playing : (c : After-as_slice) → IsPlaying c.args.self.now c.self.inside.kernel c.self.inside.demixing c.self.inside.planes.items c.self.inside.coded.items
playing c =
    let s = c.self.inside in
    subst (λ (v : ChannelsValue). IsPlaying v s.kernel s.demixing s.planes.items s.coded.items) c.self.view_is c.self.invariant

each_plane_longer : (c : After-as_slice) → AreLonger c.args.n c.self.inside.planes.items
each_plane_longer c =
    let s = c.self.inside in
    let place = c.requires.place in
    rows_longer c.args.self.now s.kernel s.demixing s.planes.items s.coded.items place.0 c.args.n (playing c) place.1 place.2

-- the row is the tick of the planes
row_is : (c : After-as_slice-2) → c.as_slice-2.result.now ≡ flat_map (tick_of c.args.n) c.self.inside.planes.items
row_is c =
    let s = c.self.inside in
    let planes : c.as_slice.result.now ≡ s.planes.items = search rules in
    let written : c.as_slice-2.result.now ≡ take s.coded.len (c.coded_row.new.row ++ drop (length c.coded_row.new.row) s.coded.items) = search rules in
    let long : length c.coded_row.new.row ≡ s.coded.len = omega arith in
    written ∙ take_at c.coded_row.new.row (drop (length c.coded_row.new.row) s.coded.items) s.coded.len long ∙ c.coded_row.ensures ∙ ap (flat_map (tick_of c.args.n)) planes

pub coded_row-requires-clause-within : goal.coded_row-requires-clause-within
coded_row-requires-clause-within c =
    let s = c.self.inside in
    let longer = each_plane_longer (goal.at.coded_row-requires-clause-within c).After-as_slice in
    let planes : s.planes.items ≡ c.as_slice.result.now = search rules in
    subst (λ (xs : List Rows). All (λ (q : Rows). c.args.n < q.length) xs) planes (each_longer c.args.n s.planes.items longer)

pub add_tick-requires-clause-can : goal.add_tick-requires-clause-can
add_tick-requires-clause-can c =
    let s = c.self.inside in
    let p = playing (goal.at.add_tick-requires-clause-can c).After-as_slice in
    let place = c.requires.place in
    let element : c.args.self.now.element ≡ view_element s.element.now = sym (ap (λ (v : ChannelsValue). v.element) c.self.view_is) in
    let row = row_is (goal.at.add_tick-requires-clause-can c).After-as_slice-2 in
    subst (λ (xs : List ℤ). CanAdd s.kernel s.element.now.config (length xs) (length c.args.sums.now)) (sym row)
    (tick_can c.args.self.now s.kernel s.demixing s.planes.items s.coded.items s.element.now place.0 c.args.n (length c.args.sums.now) p element place.1 place.3)

pub add_tick-requires-clause-few : goal.add_tick-requires-clause-few
add_tick-requires-clause-few c =
    let s = c.self.inside in
    let p = playing (goal.at.add_tick-requires-clause-few c).After-as_slice in
    let row = row_is (goal.at.add_tick-requires-clause-few c).After-as_slice-2 in
    subst (λ (xs : List ℤ). length xs ≤ 255) (sym row) (tick_few c.args.self.now s.kernel s.demixing s.planes.items s.coded.items c.args.n p)

pub add_tick-requires-clause-mode : goal.add_tick-requires-clause-mode
add_tick-requires-clause-mode c = subst (λ (q : DemixParams). IsMode q.mode) (sym c.params.ensures) c.self.invariant.sound.mode

pub add_tick-requires-clause-samples : goal.add_tick-requires-clause-samples
add_tick-requires-clause-samples c =
    let s = c.self.inside in
    let p = playing (goal.at.add_tick-requires-clause-samples c).After-as_slice in
    let longer = each_plane_longer (goal.at.add_tick-requires-clause-samples c).After-as_slice in
    let begun : c.args.self.now.begun ≡ (c.args.self.now.begun - 1) + 1 = omega arith in
    let row = row_is (goal.at.add_tick-requires-clause-samples c).After-as_slice-2 in
    subst (λ (xs : List ℤ). All (λ y. unsigned_abs y ≤ 2 ^ 31) xs) (sym row) (tick_small c.args.self.now s.kernel s.demixing s.planes.items s.coded.items c.args.n (c.args.self.now.begun - 1) p begun longer)

pub returns-clause-value : goal.returns-clause-value
returns-clause-value c = λ r h k there.
    let s = c.self.inside in
    let p = playing (goal.at.returns-clause-value c).After-as_slice in
    let place = c.requires.place in
    let longer = each_plane_longer (goal.at.returns-clause-value c).After-as_slice in
    let begun : c.args.self.now.begun ≡ (c.args.self.now.begun - 1) + 1 = omega arith in
    let element : c.args.self.now.element ≡ view_element s.element.now = sym (ap (λ (v : ChannelsValue). v.element) c.self.view_is) in
    let row = row_is (goal.at.returns-clause-value c).After-as_slice-2 in
    let value = tick_value c.args.self.now s.kernel s.demixing s.planes.items s.coded.items s.element.now r place.0 c.args.n (c.args.self.now.begun - 1) k (length c.args.sums.now) p element begun longer place.1 place.3 h there in
    let own = ap (λ (xs : List ℤ). added s.kernel s.element.now.config s.demixing.params xs k) row ∙ value in
    let params : c.params.result ≡ s.demixing.params = c.params.ensures in
    c.add_tick.ensures.value k there ∙ ap (λ q. base c.args.fresh (get_or c.args.sums.now k (pos 0)) +ℤ gained (added s.kernel s.element.now.config q c.as_slice-2.result.now k) c.args.gain) params
    ∙ ap (λ z. base c.args.fresh (get_or c.args.sums.now k (pos 0)) +ℤ gained z c.args.gain) own
