use Rattle.std.proofs.Common.{rules, arith, ◌≡◌, ◌<◌, ◌-◌, ℕ, List, map, length, get_or, refl, sym, ap, subst, ◌∙◌, false}
use Rattle.std.specs.Prelude.{sum_by}
use Rattle.std.specs.List.{All, list_any}
use Rattle.iamf_bits.specs.Rows.{Rows}
use Rattle.std.proofs.lemmas.List.{length-map}
use Rattle.spec_descriptors.specs.Layers.{LayerFields}
use Rattle.spec_descriptors.specs.CodecConfig.{CodecConfigFields}
use Rattle.spec_demix.specs.Elements.{demix_layers_of}
use Rattle.spec_demix.specs.Sent.{IsLayers}
use Rattle.obu_descriptors.specs.ElementView.{view_element}
use Rattle.obu_element_config.specs.LayerView.{view_layer}
use Rattle.spec_sequence.specs.Reading.{Reads, values_of}
use Rattle.spec_play.specs.declared.target.Target.{Target}
use Rattle.spec_play.specs.Mixes.{no_codec}
use Rattle.spec_play.specs.UsedLayers.{used_layers}
use Rattle.spec_play.specs.Laws.{IsHearable}
use Rattle.spec_play.specs.Selection.{lacks_layer, is_for_other, is_output_gain_above}
use Rattle.iamf_channels.specs.Heard.{ChannelsValue}
use Rattle.iamf_channels.specs.Decoded.{no_rows}
use Rattle.iamf_channels.specs.Playing.{HasRows}
use Rattle.iamf_channels.proofs.StreamCounts.{is_known}
use Rattle.iamf_channels.proofs.UsedKernels.{modest_layers, used_chain}
use Rattle.iamf_channels.proofs.PlayedElements.{target_is, sound_of, few_of, codec_is}
use Rattle.iamf_channels.proofs.FirstElement.{rendition_length, kernel_kind, kernel_made, enough_coded, first_playing}
use Rattle.iamf_channels.proofs.element_channels.ElementChannels.new.Goals as goal

pub kernel_of-kernel-requires-clause-chain : goal.kernel_of-kernel-requires-clause-chain
kernel_of-kernel-requires-clause-chain c = λ some.
    let v : ChannelsValue = record { sequence = c.args.sequence.now; element = view_element c.args.element.now; target = c.args.target; begun = 0 } in
    let r = c.requires.heard.0 in
    let sound = sound_of v r c.requires.heard.1 in
    let played = target_is v r c.requires.heard.1 in
    let hearable = subst IsHearable played sound.hearable in
    let there = subst (λ (t : Target). lacks_layer t v.element.config ≡ false) played sound.there in
    let used = c.used_layers.result.now in
    let is : map view_layer used ≡ used_layers c.args.target v.element.config = c.used_layers.ensures in
    let count : length (map view_layer used) ≡ length used = length-map used view_layer in
    let more : 0 < length (used_layers c.args.target v.element.config) = subst (λ (xs : List LayerFields). 0 < length xs) is (omega arith) in
    let chain = used_chain c.args.target v.element.config hearable sound.chain there more in
    let own = subst (λ (xs : List LayerFields). IsLayers (demix_layers_of xs) (length xs - 1)) (sym is) chain in
    subst (λ (n : ℕ). IsLayers (demix_layers_of (map view_layer used)) (n - 1)) count own

pub kernel_of-kernel-requires-clause-gains : goal.kernel_of-kernel-requires-clause-gains
kernel_of-kernel-requires-clause-gains c = λ some.
    let v : ChannelsValue = record { sequence = c.args.sequence.now; element = view_element c.args.element.now; target = c.args.target; begun = 0 } in
    let r = c.requires.heard.0 in
    let sound = sound_of v r c.requires.heard.1 in
    let low = subst (λ (t : Target). list_any (λ (layer : LayerFields). is_output_gain_above layer.gain) (used_layers t v.element.config) ≡ false) (target_is v r c.requires.heard.1) sound.low in
    let own = subst (λ (xs : List LayerFields). list_any (λ (layer : LayerFields). is_output_gain_above layer.gain) xs ≡ false) (sym c.used_layers.ensures) low in
    λ j le. modest_layers c.used_layers.result.now own j

pub reserve-requires-clause-known : goal.reserve-requires-clause-known
reserve-requires-clause-known c =
    let v : ChannelsValue = record { sequence = c.args.sequence.now; element = view_element c.args.element.now; target = c.args.target; begun = 0 } in
    is_known v.element.config (sound_of v c.requires.heard.0 c.requires.heard.1).known

pub reserve-requires-clause-there : goal.reserve-requires-clause-there
reserve-requires-clause-there c =
    let v : ChannelsValue = record { sequence = c.args.sequence.now; element = view_element c.args.element.now; target = c.args.target; begun = 0 } in
    omega (arith, enough_coded v c.requires.heard.0 c.requires.heard.1)

pub reserve-requires-clause-few : goal.reserve-requires-clause-few
reserve-requires-clause-few c =
    let v : ChannelsValue = record { sequence = c.args.sequence.now; element = view_element c.args.element.now; target = c.args.target; begun = 0 } in
    let few = few_of v c.requires.heard.0 c.requires.heard.1 in
    omega (arith, enough_coded v c.requires.heard.0 c.requires.heard.1)

pub reserve-requires-clause-length : goal.reserve-requires-clause-length
reserve-requires-clause-length c =
    let v : ChannelsValue = record { sequence = c.args.sequence.now; element = view_element c.args.element.now; target = c.args.target; begun = 0 } in
    let read = c.bytes.ensures.reads in
    let reads : Reads c.bytes.result.now (values_of c.args.sequence.now.entries) = record { entries = c.args.sequence.now.entries; values_are = refl; admitted = read.admitted; whole = read.whole } in
    let most = rendition_length c.bytes.result.now v c.requires.heard.0 reads c.requires.heard.1 in
    let says = c.codec.ensures.says in
    let is = codec_is v c.requires.heard.0 c.requires.heard.1 ∙ ap (λ (cs : List CodecConfigFields). get_or cs 0 no_codec) says.1 in
    let frame : c.codec.result.now.frame_length ≡ (c.requires.heard.0).codec.num_samples_per_frame = says.2.frame_length ∙ sym (ap (λ (x : CodecConfigFields). x.num_samples_per_frame) is) in
    omega arith

pub invariant_of-result : goal.invariant_of-result
invariant_of-result c =
    let v : ChannelsValue = record { sequence = c.args.sequence.now; element = view_element c.args.element.now; target = c.args.target; begun = 0 } in
    let r = c.requires.heard.0 in
    let heard = c.requires.heard.1 in
    let sound = sound_of v r heard in
    let played = target_is v r heard in
    let planes = c.in_ok-planes.planes.items in
    let read = c.bytes.ensures.reads in
    let reads : Reads c.bytes.result.now (values_of c.args.sequence.now.entries) = record { entries = c.args.sequence.now.entries; values_are = refl; admitted = read.admitted; whole = read.whole } in
    let says = c.codec.ensures.says in
    let is = codec_is v r heard ∙ ap (λ (cs : List CodecConfigFields). get_or cs 0 no_codec) says.1 in
    let frame : c.codec.result.now.frame_length ≡ r.codec.num_samples_per_frame = says.2.frame_length ∙ sym (ap (λ (x : CodecConfigFields). x.num_samples_per_frame) is) in
    let there = subst (λ (t : Target). lacks_layer t v.element.config ≡ false) played sound.there in
    let suits = subst (λ (t : Target). is_for_other t v.element.config ≡ false) played sound.suits in
    let layers : map view_layer c.used_layers.result.now ≡ used_layers c.args.target v.element.config = c.used_layers.ensures in
    let kernel = kernel_made c.used_layers.result.now (used_layers c.args.target v.element.config) c.kernel_of-kernel.result layers c.kernel_of-kernel.ensures in
    let rows : HasRows r c.args.target v.element planes = record {
      count = c.in_ok-planes.ensures.count;
      channels = c.in_ok-planes.ensures.channels;
      enough = omega (arith, c.in_ok-planes.ensures.enough, c.in_ok-planes.ensures.sum, c.needed_channels-needed.ensures);
      lengths = λ i within. subst (λ (n : ℕ). All (λ (q : Rows). q.length ≡ n) planes) frame c.in_ok-planes.ensures.lengths i no_rows within;
    } in
    let long : length c.in_ok-coded.coded.items ≡ c.in_ok-planes.channels = first_of (omega arith, search rules) in
    let row : length c.in_ok-coded.coded.items ≡ sum_by (λ (q : Rows). q.channels) planes = long ∙ c.in_ok-planes.ensures.sum in
    first_playing c.bytes.result.now v c.kernel_of-kernel.result c.first_demixing-demixing.result planes c.in_ok-coded.coded.items r reads heard refl (kernel_kind c.args.target v.element.config c.kernel_of-kernel.result there suits sound.known kernel)
    (c.first_demixing-demixing.ensures.has r played sound.reserved) c.first_demixing-demixing.ensures.sound rows row
