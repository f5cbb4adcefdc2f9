-- An element that is played, and what it gives at a tick.
use Rattle.std.proofs.Common.{arith, ◌≡◌, ◌<◌, ◌≤◌, ◌+◌, ◌-◌, ◌^◌, ℕ, ℤ, false, List, [], ◌∷◌, ◌++◌, map, take, length, length-append, get_or, Option, unsigned_abs, refl, sym, ap, subst, ◌∙◌}
use Rattle.std.specs.Prelude.{sum, sum_by, unwrap_or}
use Rattle.std.specs.List.{All, flat_map, list_any}
use Rattle.std.proofs.lemmas.List.{length-map}
use Rattle.std.proofs.lemmas.List.Sums.{sum_by-take-le}
use Rattle.spec_descriptors.specs.Layers.{LayerFields}
use Rattle.spec_descriptors.specs.AudioElement.{ConfigFields, AudioElementFields, coded_channels_of}
use Rattle.spec_demix.specs.declared.DemixLayer.{DemixLayer}
use Rattle.demix_layers.proofs.WholeScenes.{valid_are_whole}
use Rattle.obu_descriptors.specs.declared.audio_element.AudioElement.{AudioElement}
use Rattle.obu_descriptors.specs.ElementView.{view_element}
use Rattle.spec_sequence.specs.Parts.{UnitValue}
use Rattle.spec_sequence.specs.Reading.{values_of}
use Rattle.spec_play.specs.declared.target.Target.{Target}
use Rattle.spec_play.specs.declared.target.Target.TheVariants as target
use Rattle.spec_play.specs.Mixes.{Rendition, unit_length, unit_of, no_unit}
use Rattle.spec_play.specs.UsedLayers.{used_layers}
use Rattle.spec_play.specs.CodedSamples.{coded_samples}
use Rattle.spec_play.specs.DemixingOverTime.{parameters_in}
use Rattle.spec_play.specs.Waves.{wave_shape}
use Rattle.spec_play.specs.Selection.{lacks_layer, is_output_gain_above}
use Rattle.spec_play.specs.Exact.{Place}
use Rattle.spec_play.specs.FixedMix.{fixed_channel, fixed_channel_in}
use Rattle.spec_play.specs.Laws.{HasFrame, IsHearable}
use Rattle.iamf_bits.specs.Rows.{Rows}
use Rattle.iamf_mixing.specs.Ticks.{tick_of}
use Rattle.iamf_channels.specs.declared.parameters.Demixing.{Demixing}
use Rattle.iamf_channels.specs.Heard.{ChannelsValue, Hears, codec_in, units_in, unit_in}
use Rattle.iamf_channels.specs.Decoded.{no_rows, Holds}
use Rattle.iamf_channels.specs.Parameters.{HasDemixing, AreSound}
use Rattle.iamf_channels.specs.Playing.{IsKernelOf, IsPlaying}
use Rattle.iamf_channels.specs.Adding.{CanAdd, added}
use Rattle.iamf_channels.proofs.HeardRenditions.{IsOfMix, of_heard, same_channel, IsSoundFor, sound_at, own_count, count_at, few_at}
use Rattle.iamf_channels.specs.Needed.{needed, stream_channels}
use Rattle.iamf_channels.proofs.FrontChannels.{IsFront, same_channel_in}
use Rattle.iamf_channels.proofs.StreamCounts.{is_known, total_is}
use Rattle.iamf_channels.proofs.RowLists.{same_default, same_at}
use Rattle.iamf_channels.proofs.CodedRows.{AreLonger, samples_after, coded_same, coded_few, coded_small, ticks_count, sum_is}
use Rattle.iamf_channels.proofs.AddedChannels.{HasRoom, can_add, added_is}

-- ---- renditions

of_value : (v : ChannelsValue) (r : Rendition) → Hears v r → IsOfMix (values_of v.sequence.entries) v.target r
of_value v r h = of_heard (values_of v.sequence.entries) h.mix v.target r h.heard_is

pub target_is : (v : ChannelsValue) (r : Rendition) → Hears v r → r.target ≡ v.target
target_is v r h = ap (λ (x : Rendition). x.target) (of_value v r h).is

pub units_are : (v : ChannelsValue) (r : Rendition) → Hears v r → r.units ≡ units_in v.sequence
units_are v r h = ap (λ (x : Rendition). x.units) (of_value v r h).is

pub codec_is : (v : ChannelsValue) (r : Rendition) → Hears v r → r.codec ≡ codec_in v.sequence
codec_is v r h = ap (λ (x : Rendition). x.codec) (of_value v r h).is

same_lengths : (v : ChannelsValue) (r q : Rendition) → Hears v r → Hears v q → unit_length r ≡ unit_length q
same_lengths v r q h k = ap (λ c. c.num_samples_per_frame) (codec_is v r h ∙ sym (codec_is v q k))

pub sound_of : (v : ChannelsValue) (r : Rendition) → Hears v r → IsSoundFor r v.element
sound_of v r h = subst (IsSoundFor r) h.element_is (sound_at r h.place h.mixed h.playable h.there)

pub count_of : (v : ChannelsValue) (r : Rendition) → Hears v r → (wave_shape r).channels ≡ own_count v.target v.element.config
count_of v r h =
    count_at r h.place h.mixed h.playable h.there ∙ ap (λ (e : AudioElementFields). own_count r.target e.config) h.element_is ∙ ap (λ t. own_count t v.element.config) (target_is v r h)

pub few_of : (v : ChannelsValue) (r : Rendition) → Hears v r → unwrap_or (coded_channels_of v.element.config) 0 ≤ 28
few_of v r h = subst (λ (e : AudioElementFields). unwrap_or (coded_channels_of e.config) 0 ≤ 28) h.element_is (few_at r h.place h.mixed h.playable h.there)

-- ---- rows

pub each_longer : (n : ℕ) (planes : List Rows) → AreLonger n planes → All (λ (p : Rows). n < p.length) planes
each_longer n planes longer = λ k d h. subst (λ (p : Rows). n < p.length) (same_default planes k no_rows d h) (longer k h)

pub rows_longer : (v : ChannelsValue) (kernel : Option (List DemixLayer)) (d : Demixing) (planes : List Rows) (row : List ℤ) (r : Rendition) (n : ℕ) → IsPlaying v kernel d planes row → Hears v r → n < unit_length r → AreLonger n planes
rows_longer v kernel d planes row r n p h below = λ i there.
    let long = p.rows.lengths i there in
    let same = same_lengths v r p.heard h p.is_heard in
    omega arith

-- ---- a tick

none_left : (ys : List ℤ) → length ys ≤ 0 → ys ≡ []
none_left [] h = refl
none_left (y ∷ ys) h = absurd (omega arith)

is_front : (played : Target) (config : ConfigFields) (front rest all : List ℤ) → all ≡ front ++ rest → needed played config ≤ length front → length all ≤ sum (stream_channels config) → IsFront played rest
is_front (target.Layer layout) config front rest all is enough most = tt
is_front target.Scene config front rest all is enough most =
    let long : length all ≡ length front + length rest = ap (λ (ys : List ℤ). length ys) is ∙ length-append front rest in
    let total = total_is config in
    none_left rest (omega arith)

pub tick_small : (v : ChannelsValue) (kernel : Option (List DemixLayer)) (d : Demixing) (planes : List Rows) (row : List ℤ) (n u : ℕ) → IsPlaying v kernel d planes row → v.begun ≡ u + 1 → AreLonger n planes
    → All (λ y. unsigned_abs y ≤ 2 ^ 31) (flat_map (tick_of n) planes)
tick_small v kernel d planes row n u p e longer = coded_small p.heard.codec (unit_of p.heard u) n v.element.audio_substream_ids planes (p.last u e).held longer

coded_most : (v : ChannelsValue) (kernel : Option (List DemixLayer)) (d : Demixing) (planes : List Rows) (row : List ℤ) (n : ℕ) → IsPlaying v kernel d planes row → length (flat_map (tick_of n) planes) ≤ unwrap_or (coded_channels_of v.element.config) 0
coded_most v kernel d planes row n p =
    let some = sum_by-take-le (λ (x : ℕ). x) (stream_channels v.element.config) (length planes) in
    let own : sum_by (λ (q : Rows). q.channels) planes ≡ sum (take (length planes) (stream_channels v.element.config)) = sym (sum_is planes) ∙ ap (λ (cs : List ℕ). sum cs) p.rows.channels in
    let all = total_is v.element.config in
    omega (arith, ticks_count n planes)

pub tick_few : (v : ChannelsValue) (kernel : Option (List DemixLayer)) (d : Demixing) (planes : List Rows) (row : List ℤ) (n : ℕ) → IsPlaying v kernel d planes row → length (flat_map (tick_of n) planes) ≤ 255
tick_few v kernel d planes row n p =
    let few : unwrap_or (coded_channels_of v.element.config) 0 ≤ 28 = few_of v p.heard p.is_heard in
    omega (arith, coded_most v kernel d planes row n p)

coded_enough : (v : ChannelsValue) (kernel : Option (List DemixLayer)) (d : Demixing) (planes : List Rows) (row : List ℤ) (n : ℕ) → IsPlaying v kernel d planes row → needed v.target v.element.config ≤ length (flat_map (tick_of n) planes)
coded_enough v kernel d planes row n p = let enough = p.rows.enough in omega (arith, ticks_count n planes)

has_room : (v : ChannelsValue) (kernel : Option (List DemixLayer)) (d : Demixing) (planes : List Rows) (row : List ℤ) (r : Rendition) (n sums : ℕ) → IsPlaying v kernel d planes row → Hears v r → sums ≡ (wave_shape r).channels
    → HasRoom v.target v.element.config (length (flat_map (tick_of n) planes)) sums
has_room v kernel d planes row r n sums p h counted = record {
  there = subst (λ (t : Target). lacks_layer t v.element.config ≡ false) (target_is v r h) (sound_of v r h).there;
  counted = counted ∙ count_of v r h;
  enough = coded_enough v kernel d planes row n p;
  whole = λ scene is. valid_are_whole h.valid.0 v.element scene h.valid.1 is;
  most = coded_most v kernel d planes row n p;
}

pub tick_can : (v : ChannelsValue) (kernel : Option (List DemixLayer)) (d : Demixing) (planes : List Rows) (row : List ℤ) (e : AudioElement) (r : Rendition) (n sums : ℕ) → IsPlaying v kernel d planes row → v.element ≡ view_element e → Hears v r
    → sums ≡ (wave_shape r).channels → CanAdd kernel e.config (length (flat_map (tick_of n) planes)) sums
tick_can v kernel d planes row e r n sums p is h counted =
    can_add v.target e.config (length e.substreams.items) kernel (length (flat_map (tick_of n) planes)) sums (subst (λ (x : AudioElementFields). IsKernelOf v.target x.config kernel) is p.kernel_is)
    (subst (λ (x : AudioElementFields). HasRoom v.target x.config (length (flat_map (tick_of n) planes)) sums) is (has_room v kernel d planes row r n sums p h counted))

pub tick_value : (v : ChannelsValue) (kernel : Option (List DemixLayer)) (d : Demixing) (planes : List Rows) (row : List ℤ) (e : AudioElement) (r q : Rendition) (n u c sums : ℕ) → IsPlaying v kernel d planes row → v.element ≡ view_element e → v.begun ≡ u + 1
    → AreLonger n planes → Hears v q → sums ≡ (wave_shape q).channels → Hears v r → c < sums
    → added kernel e.config d.params (flat_map (tick_of n) planes) c ≡ fixed_channel r (record { unit = v.begun - 1; sample = n; channel = c }) v.element
tick_value v kernel d planes row e r q n u c sums p is begun longer k counted h below =
    let heard = p.heard in
    let place : Place = record { unit = v.begun - 1; sample = n; channel = c } in
    let coded = flat_map (tick_of n) planes in
    let unit_is : u ≡ v.begun - 1 = omega arith in
    let known : v.begun ≡ (v.begun - 1) + 1 = omega arith in
    let there : lacks_layer v.target v.element.config ≡ false = subst (λ (t : Target). lacks_layer t v.element.config ≡ false) (target_is v heard p.is_heard) (sound_of v heard p.is_heard).there in
    let total : sums ≡ own_count v.target v.element.config = counted ∙ count_of v q k in
    let within : c < own_count v.target v.element.config = omega arith in
    let own : added kernel e.config d.params coded c ≡ fixed_channel_in v.target (view_element e).config (parameters_in heard v.element (v.begun - 1)) coded c =
    added_is v.target e.config (length e.substreams.items) kernel d.params (parameters_in heard v.element (v.begun - 1)) coded c (subst (λ (x : AudioElementFields). IsKernelOf v.target x.config kernel) is p.kernel_is)
    (subst (λ (x : AudioElementFields). lacks_layer v.target x.config ≡ false) is there) (p.demixing.last (v.begun - 1) known) (subst (λ (x : AudioElementFields). c < own_count v.target x.config) is within) in
    let sound = sound_of v heard p.is_heard in
    let known_streams = is_known v.element.config sound.known in
    let all = coded_samples heard.codec (unit_of heard (v.begun - 1)) v.element n in
    let others = samples_after heard.codec (unit_of heard (v.begun - 1)) v.element n (length planes) in
    let tick : all ≡ coded ++ others = coded_same heard.codec (unit_of heard (v.begun - 1)) n v.element planes known_streams p.rows.count p.rows.channels (p.last (v.begun - 1) known).held longer in
    let enough = coded_enough v kernel d planes row n p in
    let most = coded_few heard.codec (unit_of heard (v.begun - 1)) n v.element known_streams in
    let front = is_front v.target v.element.config coded others all tick enough most in
    let played = target_is v heard p.is_heard in
    let hearable = subst IsHearable played sound.hearable in
    let low = subst (λ (t : Target). list_any (λ (layer : LayerFields). is_output_gain_above layer.gain) (used_layers t v.element.config) ≡ false) played sound.low in
    let same = same_channel_in v.target v.element.config (parameters_in heard v.element (v.begun - 1)) coded others c hearable sound.chain there low enough front in
    own
    ∙ ap (λ (x : AudioElementFields). fixed_channel_in v.target x.config (parameters_in heard v.element (v.begun - 1)) coded c) (sym is)
    ∙ same
    ∙ ap (λ (zs : List ℤ). fixed_channel_in v.target v.element.config (parameters_in heard v.element (v.begun - 1)) zs c) (sym tick)
    ∙ ap (λ (t : Target). fixed_channel_in t v.element.config (parameters_in heard v.element (v.begun - 1)) all c) (sym played)
    ∙ same_channel (values_of v.sequence.entries) v.target heard r place v.element (of_value v heard p.is_heard) (of_value v r h)

-- ---- another unit

abbrev pub begin_next : ChannelsValue → ℕ → ChannelsValue
begin_next v u = record { sequence = v.sequence; element = v.element; target = v.target; begun = u + 1 }

pub next_playing : (v : ChannelsValue) (kernel : Option (List DemixLayer)) (d after : Demixing) (planes made : List Rows) (row : List ℤ) (u : ℕ) → IsPlaying v kernel d planes row → v.begun ≡ u → u < length (units_in v.sequence)
    → map (λ (p : Rows). p.channels) made ≡ map (λ (p : Rows). p.channels) planes → map (λ (p : Rows). p.length) made ≡ map (λ (p : Rows). p.length) planes
    → ((i : ℕ) → i < length planes → Holds (codec_in v.sequence) (unit_in v.sequence u) (get_or v.element.audio_substream_ids i 0) (get_or made i no_rows))
    → ((r : Rendition) (element : AudioElementFields) → r.units ≡ units_in v.sequence → HasDemixing r element u d → HasDemixing r element (u + 1) after) → AreSound after
    → IsPlaying (begin_next v u) kernel after made row
next_playing v kernel d after planes made row u p e below wide long holds steps sound =
    let heard = p.heard in
    let count : length made ≡ length planes = sym (length-map made (λ (q : Rows). q.channels)) ∙ ap (λ (ns : List ℕ). length ns) wide ∙ length-map planes (λ (q : Rows). q.channels) in
    let units : heard.units ≡ units_in v.sequence = units_are v heard p.is_heard in
    let demixing : HasDemixing heard v.element u d = subst (λ (b : ℕ). HasDemixing heard v.element b d) e p.demixing in
    record {
      heard = heard;
      is_heard = record { mix = p.is_heard.mix; heard_is = p.is_heard.heard_is; playable = p.is_heard.playable; place = p.is_heard.place; mixed = p.is_heard.mixed; there = p.is_heard.there; element_is = p.is_heard.element_is; valid = p.is_heard.valid };
      kernel_is = p.kernel_is;
      demixing = steps heard v.element units demixing;
      sound = sound;
      rows = record {
        count = let few = p.rows.count in omega arith;
        channels = wide ∙ p.rows.channels ∙ ap (λ (k : ℕ). take k (stream_channels v.element.config)) (sym count);
        enough = subst (λ (k : ℕ). needed v.target v.element.config ≤ k) (sym (sum_is planes) ∙ ap (λ (ns : List ℕ). sum ns) (sym wide) ∙ sum_is made) p.rows.enough;
        lengths = λ i there. sym (same_at (λ (q : Rows). q.length) planes made i long (omega arith)) ∙ p.rows.lengths i (omega arith);
      };
      depth = p.depth;
      frames = λ w i there within. subst (λ (n : ℕ). HasFrame heard.codec (unit_of heard w) (get_or v.element.audio_substream_ids i 0, n)) (same_at (λ (q : Rows). q.channels) planes made i wide (omega arith)) (p.frames w i there (omega arith));
      last = λ w is. let same : u ≡ w = omega arith in
          record {
            there = subst (λ (k : ℕ). k < length heard.units) same (subst (λ (us : List UnitValue). u < length us) (sym units) below);
            held = λ i there.
                subst (λ (k : ℕ). Holds heard.codec (unit_of heard k) (get_or v.element.audio_substream_ids i 0) (get_or made i no_rows)) same
                (subst (λ (us : List UnitValue). Holds heard.codec (get_or us u no_unit) (get_or v.element.audio_substream_ids i 0) (get_or made i no_rows)) (sym units)
                (subst (λ c. Holds c (unit_in v.sequence u) (get_or v.element.audio_substream_ids i 0) (get_or made i no_rows)) (sym (codec_is v heard p.is_heard)) (holds i (omega arith))));
          };
      row = p.row ∙ sym (sum_is planes) ∙ ap (λ (ns : List ℕ). sum ns) (sym wide) ∙ sum_is made;
    }
