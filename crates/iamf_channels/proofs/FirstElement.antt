-- An element before its first unit.
use Rattle.std.proofs.Common.{arith, ◌≡◌, ◌<◌, ◌≤◌, ◌+◌, ℕ, zero, suc, ℤ, true, false, List, [], ◌∷◌, map, take, length, Option, Some, None, refl, sym, ap, subst, ◌∙◌, slice_get}
use Rattle.std.specs.Prelude.{sum_by, unwrap_or, IsTrue, MatchOption}
use Rattle.std.specs.List.{All, list_any}
use Rattle.std.proofs.lemmas.Bool.{not-false}
use Rattle.std.proofs.lemmas.List.{length-map}
use Rattle.obu_element_config.specs.declared.layer.Layer.{Layer}
use Rattle.obu_element_config.specs.LayerView.{view_layer}
use Rattle.std.proofs.lemmas.Option.{get_or_from_slice_get}
use Rattle.spec_samples.specs.Lpcm.{is_depth}
use Rattle.spec_layouts.specs.declared.Layout.{Layout}
use Rattle.spec_descriptors.specs.Layers.{LayerFields}
use Rattle.spec_descriptors.specs.AudioElement.{ConfigFields, Scalable, Ambisonics, Other, substream_channels_of, coded_channels_of}
use Rattle.spec_rules.specs.Descriptors.{pairs_in}
use Rattle.spec_sequence.proofs.RoleNumbers.{role_depth}
use Rattle.spec_demix.specs.declared.DemixLayer.{DemixLayer}
use Rattle.spec_demix.specs.Elements.{demix_layers_of}
use Rattle.spec_sequence.specs.Reading.{Reads, values_of}
use Rattle.spec_play.specs.declared.target.Target.{Target}
use Rattle.spec_play.specs.declared.target.Target.TheVariants as target
use Rattle.spec_play.specs.Mixes.{MixedElement, Rendition, codec_of, unit_length, unit_of}
use Rattle.spec_play.specs.UsedLayers.{is_of, layers_up_to, used_layers}
use Rattle.spec_play.specs.Selection.{lacks_layer, is_for_other, is_unknown}
use Rattle.spec_play.specs.Laws.{HasFrame, HasFramesOf}
use Rattle.spec_play.proofs.ChainsUpTo.{is_its}
use Rattle.spec_play.proofs.WholeFrames.{frames_whole, rendition_numbers}
use Rattle.iamf_bits.specs.Rows.{Rows}
use Rattle.iamf_channels.specs.declared.parameters.Demixing.{Demixing}
use Rattle.iamf_channels.specs.Heard.{ChannelsValue, Hears}
use Rattle.iamf_channels.specs.Parameters.{HasDemixing, AreSound}
use Rattle.iamf_channels.specs.Needed.{needed, stream_channels}
use Rattle.iamf_channels.specs.Playing.{IsKernelOf, HasRows, HaveFrames, IsPlaying}
use Rattle.iamf_channels.proofs.CodedRows.{frame_at}
use Rattle.iamf_channels.proofs.LayerCounts.{layers_suffice}
use Rattle.iamf_channels.proofs.StreamCounts.{known_list, is_known}
use Rattle.iamf_channels.proofs.PlayedElements.{target_is, sound_of}

pub rendition_depth : (bytes : List ℕ) (v : ChannelsValue) (r : Rendition) → Reads bytes (values_of v.sequence.entries) → Hears v r → IsTrue (is_depth (codec_of r).depth)
rendition_depth bytes v r reads h =
    role_depth r.codec.codec_config_id r.codec.num_samples_per_frame r.codec.coding (rendition_numbers bytes (values_of v.sequence.entries) h.mix v.target r reads h.heard_is).depth

pub rendition_length : (bytes : List ℕ) (v : ChannelsValue) (r : Rendition) → Reads bytes (values_of v.sequence.entries) → Hears v r → unit_length r ≤ 65535
rendition_length bytes v r reads h = (rendition_numbers bytes (values_of v.sequence.entries) h.mix v.target r reads h.heard_is).length

slice_below : {A : Type 0} (xs : List A) (i : ℕ) (x : A) → slice_get xs i ≡ Some x → i < length xs
slice_below [] i x e = absurd (cc)
slice_below (y ∷ xs) zero x e = omega arith
slice_below (y ∷ xs) (suc i) x e = let rest = slice_below xs i x e in omega arith

rendition_frames : (bytes : List ℕ) (v : ChannelsValue) (r : Rendition) (planes : List Rows) → Reads bytes (values_of v.sequence.entries) → Hears v r → length planes ≤ length v.element.audio_substream_ids
    → map (λ (p : Rows). p.channels) planes ≡ take (length planes) (stream_channels v.element.config) → HaveFrames r v.element planes
rendition_frames bytes v r planes reads h count wide = λ u i there within.
    let whole = frames_whole bytes (values_of v.sequence.entries) h.mix v.target r u reads h.heard_is there in
    let inside = slice_below r.elements h.place h.mixed h.there in
    let is = get_or_from_slice_get r.elements h.place h.mixed h.mixed h.there in
    let all : HasFramesOf r.codec (unit_of r u) v.element = subst (HasFramesOf r.codec (unit_of r u)) (ap (λ (m : MixedElement). m.element) is ∙ h.element_is) (whole.frames h.place h.mixed inside) in
    let known = known_list (substream_channels_of v.element.config) (is_known v.element.config (sound_of v r h).known) in
    let pairs = subst (λ (o : Option (List ℕ)). All (HasFrame r.codec (unit_of r u)) (pairs_in v.element.audio_substream_ids o)) known all in
    frame_at r.codec (unit_of r u) v.element.audio_substream_ids (stream_channels v.element.config) planes i count wide pairs within

pub first_playing : (bytes : List ℕ) (v : ChannelsValue) (kernel : Option (List DemixLayer)) (d : Demixing) (planes : List Rows) (row : List ℤ) (r : Rendition) → Reads bytes (values_of v.sequence.entries) → Hears v r → v.begun ≡ 0
    → IsKernelOf v.target v.element.config kernel → HasDemixing r v.element 0 d → AreSound d → HasRows r v.target v.element planes → length row ≡ sum_by (λ (p : Rows). p.channels) planes → IsPlaying v kernel d planes row
first_playing bytes v kernel d planes row r reads h none kernel_is demixing sound rows row_is = record {
  heard = r;
  is_heard = h;
  kernel_is = kernel_is;
  demixing = subst (λ (n : ℕ). HasDemixing r v.element n d) (sym none) demixing;
  sound = sound;
  rows = rows;
  depth = rendition_depth bytes v r reads h;
  frames = rendition_frames bytes v r planes reads h rows.count rows.channels;
  last = λ u e. let no : 0 ≡ u + 1 = sym none ∙ e in absurd (omega arith);
  row = row_is;
}

-- ---- its kernel

up_to_some : (layout : Layout) (layers : List LayerFields) → list_any (is_of layout) layers ≡ true → 0 < length (layers_up_to layout layers)
up_to_some layout [] e = absurd (cc)
up_to_some layout (layer ∷ layers) e = omega arith

pub kernel_kind : (played : Target) (config : ConfigFields) (kernel : Option (List DemixLayer)) → lacks_layer played config ≡ false → is_for_other played config ≡ false → is_unknown config ≡ false
    → MatchOption kernel (length (used_layers played config) ≡ 0) (λ k. (0 < length (used_layers played config)) × (k ≡ demix_layers_of (used_layers played config))) → IsKernelOf played config kernel
kernel_kind (target.Layer layout) (Scalable layers) (Some k) there suits known is = is.1
kernel_kind (target.Layer layout) (Scalable layers) None there suits known is = let some = up_to_some layout layers (not-false (list_any (is_of layout) layers) there) in absurd (omega arith)
kernel_kind target.Scene (Ambisonics config) None there suits known is = omega arith
kernel_kind target.Scene (Ambisonics config) (Some k) there suits known is = absurd (omega (arith, is.0))
kernel_kind (target.Layer layout) (Ambisonics config) kernel there suits known is = absurd (cc)
kernel_kind (target.Layer layout) (Other kind bytes) kernel there suits known is = absurd (cc)
kernel_kind target.Scene (Scalable layers) kernel there suits known is = absurd (cc)
kernel_kind target.Scene (Other kind bytes) kernel there suits known is = absurd (cc)

pub kernel_made : (used : List Layer) (layers : List LayerFields) (kernel : Option (List DemixLayer)) → map view_layer used ≡ layers → MatchOption kernel (length used ≡ 0) (λ k. (0 < length used) × (k ≡ demix_layers_of (map view_layer used)))
    → MatchOption kernel (length layers ≡ 0) (λ k. (0 < length layers) × (k ≡ demix_layers_of layers))
kernel_made used layers None is h = let e : length layers ≡ length used = sym (ap (λ (xs : List LayerFields). length xs) is) ∙ length-map used view_layer in e ∙ h
kernel_made used layers (Some k) is h =
    let e : length layers ≡ length used = sym (ap (λ (xs : List LayerFields). length xs) is) ∙ length-map used view_layer in
    (omega (arith, h.0), h.1 ∙ ap demix_layers_of is)

-- ---- its coded channels

pub enough_coded : (v : ChannelsValue) (r : Rendition) → Hears v r → needed v.target v.element.config ≤ unwrap_or (coded_channels_of v.element.config) 0
enough_coded v r h = by v.target v.element.config refl (subst (λ (t : Target). lacks_layer t v.element.config ≡ false) (target_is v r h) (sound_of v r h).there) (subst (λ (t : Target). is_for_other t v.element.config ≡ false) (target_is v r h) (sound_of v r h).suits) (sound_of v r h).known
  where
    by : (played : Target) (config : ConfigFields) → v.element.config ≡ config → lacks_layer played config ≡ false → is_for_other played config ≡ false → is_unknown config ≡ false → needed played config ≤ unwrap_or (coded_channels_of config) 0
    by (target.Layer layout) (Scalable layers) is there suits known = layers_suffice h.valid.0 v.element layers layout (is_of layout) h.valid.1 is (is_its layout) (not-false (list_any (is_of layout) layers) there)
    by (target.Layer layout) (Ambisonics config) is there suits known = absurd (cc)
    by (target.Layer layout) (Other kind bytes) is there suits known = absurd (cc)
    by target.Scene config is there suits known = omega arith
