use Rattle.std.proofs.Common.{rules, arith, ◌≡◌, ◌<◌, ℕ, ◌+◌, List, ◌++◌, take, drop, length, get_or, map, sym, ap, subst, ◌∙◌, IsTrue}
use Rattle.spec_samples.specs.Lpcm.{is_depth}
use Rattle.spec_descriptors.specs.CodecConfig.{CodecConfigFields}
use Rattle.spec_sequence.specs.ValueRole.{role_of_codec}
use Rattle.spec_sequence.specs.Parts.{UnitValue}
use Rattle.spec_play.specs.Laws.{HasFrame}
use Rattle.spec_play.specs.Mixes.{no_unit}
use Rattle.obu_descriptors.specs.ElementView.{view_element}
use Rattle.iamf_bits.specs.Rows.{Rows}
use Rattle.iamf_channels.specs.Heard.{ChannelsValue, codec_in, units_in, unit_in}
use Rattle.iamf_channels.specs.Parameters.{AreUnreserved}
use Rattle.iamf_channels.specs.Playing.{IsPlaying}
use Rattle.std.proofs.lemmas.List.{take_at}
use Rattle.iamf_channels.specs.Decoded.{no_rows, Holds}
use Rattle.iamf_channels.proofs.PlayedElements.{units_are, codec_is, next_playing}
use Rattle.iamf_channels.proofs.element_channels.ElementChannels.begin.Goals as goal

pub decode_unit-requires-clause-lengths : goal.decode_unit-requires-clause-lengths
decode_unit-requires-clause-lengths c = λ i there.
    let v : ChannelsValue = record { sequence = c.self.inside.sequence.now; element = view_element c.self.inside.element.now; target = c.self.inside.target; begun = c.self.inside.begun } in
    let p = c.self.invariant in
    let planes : c.as_mut_slice.result.now ≡ c.self.inside.planes.items = search rules in
    let inside : i < length c.self.inside.planes.items = subst (λ (xs : List Rows). i < length xs) planes there in
    ap (λ (xs : List Rows). (get_or xs i no_rows).length) planes ∙ p.rows.lengths i inside ∙ ap (λ (x : CodecConfigFields). x.num_samples_per_frame) (codec_is v p.heard p.is_heard)

pub decode_unit-requires-clause-depth : goal.decode_unit-requires-clause-depth
decode_unit-requires-clause-depth c =
    let v : ChannelsValue = record { sequence = c.self.inside.sequence.now; element = view_element c.self.inside.element.now; target = c.self.inside.target; begun = c.self.inside.begun } in
    let p = c.self.invariant in
    subst (λ (x : CodecConfigFields). IsTrue (is_depth (role_of_codec x).depth)) (codec_is v p.heard p.is_heard) p.depth

pub decode_unit-requires-clause-whole : goal.decode_unit-requires-clause-whole
decode_unit-requires-clause-whole c = λ i there.
    let v : ChannelsValue = record { sequence = c.self.inside.sequence.now; element = view_element c.self.inside.element.now; target = c.self.inside.target; begun = c.self.inside.begun } in
    let p = c.self.invariant in
    let s = c.self.inside in
    let planes : s.planes.items ≡ c.as_mut_slice.result.now = search rules in
    let ids : s.element.now.substreams.items ≡ c.as_slice.result.now = search rules in
    let inside : i < length s.planes.items = subst (λ (xs : List Rows). i < length xs) (sym planes) there in
    let units = units_are v p.heard p.is_heard in
    let sequence : c.args.self.now.sequence ≡ s.sequence.now = sym (ap (λ (v : ChannelsValue). v.sequence) c.self.view_is) in
    let below : c.args.u < length (units_in s.sequence.now) = subst (λ q. c.args.u < length (units_in q)) sequence c.requires.unit in
    let within : c.args.u < length p.heard.units = subst (λ (us : List UnitValue). c.args.u < length us) (sym units) below in
    let own = p.frames c.args.u i within inside in
    let one = subst (λ (us : List UnitValue). HasFrame p.heard.codec (get_or us c.args.u no_unit) (get_or s.element.now.substreams.items i 0, (get_or s.planes.items i no_rows).channels)) units own in
    let two = subst (λ (x : CodecConfigFields). HasFrame x (unit_in s.sequence.now c.args.u) (get_or s.element.now.substreams.items i 0, (get_or s.planes.items i no_rows).channels)) (codec_is v p.heard p.is_heard) one in
    let three = subst (λ (xs : List ℕ). HasFrame (codec_in s.sequence.now) (unit_in s.sequence.now c.args.u) (get_or xs i 0, (get_or s.planes.items i no_rows).channels)) ids two in
    subst (λ (xs : List Rows). HasFrame (codec_in s.sequence.now) (unit_in s.sequence.now c.args.u) (get_or c.as_slice.result.now i 0, (get_or xs i no_rows).channels)) planes three

pub next_demixing-self-inside-requires-clause-unreserved : goal.next_demixing-self-inside-requires-clause-unreserved
next_demixing-self-inside-requires-clause-unreserved c =
    let v : ChannelsValue = record { sequence = c.self.inside.sequence.now; element = view_element c.self.inside.element.now; target = c.self.inside.target; begun = c.self.inside.begun } in
    let p = c.self.invariant in
    subst (λ (us : List UnitValue). AreUnreserved us c.self.inside.demixing.definition) (units_are v p.heard p.is_heard) p.demixing.unreserved

pub invariant_of-self : goal.invariant_of-self
invariant_of-self c =
    let s = c.self.inside in
    let v : ChannelsValue = record { sequence = s.sequence.now; element = view_element s.element.now; target = s.target; begun = s.begun } in
    let p = c.self.invariant in
    let made = c.decode_unit.new.planes in
    let planes : c.as_mut_slice.result.now ≡ s.planes.items = search rules in
    let ids : c.as_slice.result.now ≡ s.element.now.substreams.items = search rules in
    let long : length made ≡ s.planes.len = omega arith in
    let written : take s.planes.len (made ++ drop (length made) s.planes.items) ≡ made = take_at made (drop (length made) s.planes.items) s.planes.len long in
    let wide = c.decode_unit.ensures.channels ∙ ap (map (λ (q : Rows). q.channels)) planes in
    let lengths = c.decode_unit.ensures.lengths ∙ ap (map (λ (q : Rows). q.length)) planes in
    let begun : s.begun ≡ c.args.u = ap (λ (x : ChannelsValue). x.begun) c.self.view_is ∙ sym c.requires.next in
    let sequence : c.args.self.now.sequence ≡ s.sequence.now = sym (ap (λ (x : ChannelsValue). x.sequence) c.self.view_is) in
    let below : c.args.u < length (units_in s.sequence.now) = subst (λ q. c.args.u < length (units_in q)) sequence c.requires.unit in
    let holds : (i : ℕ) → i < length s.planes.items → Holds (codec_in s.sequence.now) (unit_in s.sequence.now c.args.u) (get_or s.element.now.substreams.items i 0) (get_or made i no_rows) =
    λ i there.
    subst (λ (xs : List ℕ). Holds (codec_in s.sequence.now) (unit_in s.sequence.now c.args.u) (get_or xs i 0) (get_or made i no_rows)) ids
    (c.decode_unit.ensures.holds i (subst (λ (xs : List Rows). i < length xs) (sym planes) there)) in
    let own =
    next_playing v s.kernel s.demixing c.next_demixing-self-inside.result s.planes.items made s.coded.items c.args.u p begun below wide lengths holds c.next_demixing-self-inside.ensures.has c.next_demixing-self-inside.ensures.sound in
    subst (λ (n : ℕ). IsPlaying (record { sequence = s.sequence.now; element = view_element s.element.now; target = s.target; begun = n }) s.kernel c.next_demixing-self-inside.result (take s.planes.len (made ++ drop (length made) s.planes.items)) s.coded.items)
    (sym c.after-next.ensures)
    (subst (λ (xs : List Rows). IsPlaying (record { sequence = s.sequence.now; element = view_element s.element.now; target = s.target; begun = c.args.u + 1 }) s.kernel c.next_demixing-self-inside.result xs s.coded.items) (sym written) own)
