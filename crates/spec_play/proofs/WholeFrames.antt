-- The frames of each unit of a sequence are whole.
use Rattle.std.proofs.Common.{◌≡◌, ℕ, ◌+◌, ◌<◌, ◌≤◌, true, eqb, List, [], ◌∷◌, length, map, get_or, refl, sym, ap, subst, ◌∙◌, inl, inr, eqb-true, arith}
use Rattle.std.specs.Prelude.{Option, Some, None, IfSome, find}
use Rattle.std.specs.Option.{option_map}
use Rattle.std.proofs.lemmas.Bool.{cases_Bool, not-false}
use Rattle.std.proofs.lemmas.Option.{same_Some}
use Rattle.spec_samples.specs.Lpcm.{frame_bytes}
use Rattle.spec_flac.specs.declared.fault.FlacFault.{FlacFault}
use Rattle.spec_flac.specs.FirstFault.{first_fault}
use Rattle.spec_flac.proofs.FoundFaults.{none_found}
use Rattle.spec_descriptors.specs.CodecConfig.{CodingFields, Lpcm, Flac, CodecConfigFields}
use Rattle.spec_descriptors.specs.AudioElement.{AudioElementFields}
use Rattle.spec_descriptors.proofs.CodecNumbers.{HasDepth, HasNumbers}
use Rattle.spec_descriptors.proofs.OnEach.{all_of}
use Rattle.spec_descriptors.specs.MixPresentation.{MixElementFields, SubMixFields, MixPresentationFields}
use Rattle.spec_descriptors.specs.MixGain.{MixGainFields}
use Rattle.spec_values.specs.declared.fault.Fault.TheVariants as fault
use Rattle.spec_values.specs.Value.{ObuValue}
use Rattle.spec_rules.specs.declared.codec_role.CodecRole.{CodecRole}
use Rattle.spec_rules.specs.Role.{Role}
use Rattle.spec_rules.specs.Descriptors.{codecs, first_length, frame_length, channels_of}
use Rattle.spec_rules.specs.Units.{contains, unit_count}
use Rattle.spec_rules.specs.Rules.{first_of, has_other_length, flac_shape, frame_tests, codec_tests, end_fault}
use Rattle.spec_rules.specs.Admitted.{IsAdmitted}
use Rattle.spec_rules.proofs.NoFault.{row_none, when_none}
use Rattle.spec_sequence.specs.ValueRole.{codec_role, role_of_codec}
use Rattle.spec_sequence.specs.Parts.{roles_of, FrameValue, UnitValue, first_trim, unit_value, codec_configs, audio_elements, temporal_units}
use Rattle.spec_sequence.specs.Reading.{Reads}
use Rattle.spec_sequence.proofs.RolesOfParts.{codecs_are}
use Rattle.spec_sequence.proofs.ReadParts.{sequence_numbers}
use Rattle.spec_sequence.proofs.RoleNumbers.{role_length, role_depth}
use Rattle.spec_play.specs.declared.target.Target.{Target}
use Rattle.spec_play.specs.Mixes.{MixedElement, Rendition, no_codec, no_unit, unit_of, with_gain, mixed_element, mixed_elements, rendition, rendition_of_sub_mixes, rendition_of_mix, rendition_of, mix_of}
use Rattle.spec_play.specs.Laws.{IsCodedBy, HasFrame, HasFramesOf, HasWholeFrames, FramesAreWhole, OneCodecConfig}
use Rattle.spec_play.proofs.Tests.{Each, each_and, each_like, each_both, each_found}
use Rattle.spec_sequence.proofs.AdmittedSequences.{sequence_admitted, sequence_ends}
use Rattle.spec_rules.proofs.CompleteUnits.{stream_there}
use Rattle.spec_rules.proofs.OneCodec.{one_codec}
use Rattle.spec_sequence.proofs.FramesOfUnits.{streams_are, unit_frames, length-units, unit_at}
use Rattle.spec_play.proofs.PassedFrames.{Passes, ArePassed, frames_passed}
use Rattle.spec_play.proofs.ChannelsOfSubstreams.{IsStream, streams_of, element_streams}
use Rattle.spec_play.proofs.FewChannels.{IsFew, few_of_element}

-- ---- one frame

-- the first frame of a substream
record Found (P : FrameValue → Type 0) (s : ℕ) (fs : List FrameValue) : Type 0 where
  frame : FrameValue
  found : find (λ f. eqb f.substream s) fs ≡ Some frame
  substream : frame.substream ≡ s
  has : P frame

found_in : (P : FrameValue → Type 0) (s : ℕ) (fs : List FrameValue) → Each P fs → contains (map (λ f. f.substream) fs) s ≡ true → Found P s fs
found_in P s [] all there = absurd cc
found_in P s (f ∷ fs) all there = elim (cases_Bool (eqb f.substream s)) [
  | inl same ↦ record { frame = f; found = rw same refl; substream = eqb-true f.substream s same; has = all.0 }
  | inr other ↦
      let rest : Found P s fs = found_in P s fs all.1 (rw other at there) in
      record { frame = rest.frame; found = rw other rest.found; substream = rest.substream; has = rest.has }
]

no_flac_fault : (o : Option FlacFault) → option_map fault.Flac o ≡ None → o ≡ None
no_flac_fault None e = refl
no_flac_fault (Some f) e = absurd cc

-- what the codec's tests tell of the bytes
coded_by : (id n : ℕ) (coding : CodingFields) (channels : ℕ) (bytes : List ℕ)
    → first_of (frame_tests (codec_role id n coding).codec (codec_role id n coding) (Some channels) bytes) ≡ None
    → IsCodedBy (record { codec_config_id = id; num_samples_per_frame = n; coding = coding }) channels bytes
coded_by id n (Lpcm is_little depth rate) channels bytes h =
    let test = when_none (has_other_length (codec_role id n (Lpcm is_little depth rate)) (Some channels) bytes) fault.Lpcm [] h in
    eqb-true (length bytes) (frame_bytes n channels depth) (not-false (eqb (length bytes) (frame_bytes n channels depth)) test.0)
coded_by id n (Flac info others) channels bytes h =
    let shape = flac_shape (codec_role id n (Flac info others)) channels in
    let row = row_none (option_map fault.Flac (first_fault shape bytes)) [] h in
    (none_found shape bytes).0 (no_flac_fault (first_fault shape bytes) row.0)

coded_frame : (c : CodecConfigFields) (l : List Role) (f : FrameValue) (p : ℕ × ℕ) → codecs l ≡ role_of_codec c ∷ [] → IsStream l p → f.substream ≡ p.0 → Passes l f → IsCodedBy c p.1 f.bytes
coded_frame c l f p one stream same passes =
    coded_by c.codec_config_id c.num_samples_per_frame c.coding p.1 f.bytes
    (sym (ap (λ (cs : List CodecRole). first_of (codec_tests cs (channels_of l f.substream) f.bytes)) one
    ∙ ap (λ (channels : Option ℕ). first_of (codec_tests (role_of_codec c ∷ []) channels f.bytes)) (ap (channels_of l) same ∙ stream.channels))
    ∙ passes.coded)

-- ---- one unit of a sequence

-- what is used of a sequence and one of its units
record HasUnit (s : List ObuValue) (u : ℕ) (c : CodecConfigFields) : Type 0 where
  admitted : IsAdmitted (roles_of s)
  ends : end_fault (roles_of s) ≡ None
  codec : codecs (roles_of s) ≡ role_of_codec c ∷ []
  begun : u < unit_count (roles_of s)

unit_passed : (s : List ObuValue) (u : ℕ) → IsAdmitted (roles_of s) → ArePassed (roles_of s) (unit_value u s).frames
unit_passed s u admitted = subst (ArePassed (roles_of s)) (unit_frames u s) (frames_passed (roles_of s) admitted u)

has_frame : (s : List ObuValue) (u : ℕ) (c : CodecConfigFields) → HasUnit s u c → (p : ℕ × ℕ) → IsStream (roles_of s) p × IsFew p.1 → HasFrame c (unit_value u s) p
has_frame s u c has p (stream, few) =
    let there : contains (map (λ f. f.substream) (unit_value u s).frames) p.0 ≡ true =
    ap (λ (ss : List ℕ). contains ss p.0) (ap (map (λ (f : FrameValue). f.substream)) (sym (unit_frames u s)) ∙ sym (streams_are u (roles_of s)))
    ∙ stream_there (roles_of s) u p.0 has.admitted has.ends has.begun stream.known in
    let f = found_in (Passes (roles_of s)) p.0 (unit_value u s).frames (unit_passed s u has.admitted).all there in
    record { few = few; frame = f.frame; found = f.found; coded = coded_frame c (roles_of s) f.frame p has.codec stream f.substream f.has }

element_frames : (s : List ObuValue) (u : ℕ) (c : CodecConfigFields) → HasUnit s u c → Each (HasFramesOf c (unit_value u s)) (audio_elements s)
element_frames s u c has =
    each_like (λ (e : AudioElementFields). Each (IsStream (roles_of s)) (streams_of e)) (HasFramesOf c (unit_value u s))
    (λ e streams. all_of (HasFrame c (unit_value u s)) (streams_of e)
    (each_like (λ (p : ℕ × ℕ). IsStream (roles_of s) p × IsFew p.1) (HasFrame c (unit_value u s)) (has_frame s u c has) (streams_of e)
    (each_and (IsStream (roles_of s)) (λ (p : ℕ × ℕ). IsFew p.1) (streams_of e) streams (few_of_element e))))
    (audio_elements s) (element_streams s has.admitted)

-- ---- what the codec config says, and trims

frame_length_is : (l : List Role) (c : CodecConfigFields) → codecs l ≡ role_of_codec c ∷ [] → frame_length l ≡ c.num_samples_per_frame
unfolding frame_length
frame_length_is l c one = ap first_length one ∙ role_length c.codec_config_id c.num_samples_per_frame c.coding

first_within : (l : List Role) (n : ℕ) (fs : List FrameValue) → frame_length l ≡ n → Each (Passes l) fs → (first_trim fs).start + (first_trim fs).end ≤ n
first_within l n [] is all = omega arith
first_within l n (f ∷ fs) is all = subst (λ m. f.trim.start + f.trim.end ≤ m) is all.0.short

-- ---- a mix of it

with_gain_frames : (c : CodecConfigFields) (v : UnitValue) (gain : MixGainFields) (o : Option AudioElementFields) → IfSome o (HasFramesOf c v) → Each (λ m. HasFramesOf c v m.element) (with_gain gain o)
with_gain_frames c v gain None is = tt
with_gain_frames c v gain (Some e) is = (is, tt)

mixed_frames : (c : CodecConfigFields) (v : UnitValue) (elements : List AudioElementFields) (named : List MixElementFields) → Each (HasFramesOf c v) elements → Each (λ m. HasFramesOf c v m.element) (mixed_elements elements named)
mixed_frames c v elements [] all = tt
mixed_frames c v elements (m ∷ ms) all =
    each_both (λ (x : MixedElement). HasFramesOf c v x.element) (mixed_element elements m) (mixed_elements elements ms)
    (with_gain_frames c v m.element_mix_gain _ (each_found (HasFramesOf c v) _ elements all))
    (mixed_frames c v elements ms all)

-- of the unit's value and the one codec config
record WholeBy (s : List ObuValue) (named : List MixElementFields) (c : CodecConfigFields) (v : UnitValue) : Type 0 where
  frames : Each (λ m. HasFramesOf c v m.element) (mixed_elements (audio_elements s) named)
  passed : ArePassed (roles_of s) v.frames
  depth : HasDepth c.coding
  length_is : frame_length (roles_of s) ≡ c.num_samples_per_frame

whole_by : (s : List ObuValue) (u : ℕ) (named : List MixElementFields) (c : CodecConfigFields) → HasUnit s u c → HasDepth c.coding → WholeBy s named c (unit_value u s)
whole_by s u named c has depth = record {
  depth = depth;
  frames = mixed_frames c (unit_value u s) (audio_elements s) named (element_frames s u c has);
  passed = unit_passed s u has.admitted;
  length_is = frame_length_is (roles_of s) c has.codec;
}

has_whole : (s : List ObuValue) (target : Target) (sub_mix : SubMixFields) (u : ℕ) → WholeBy s sub_mix.elements (rendition s target sub_mix).codec (unit_of (rendition s target sub_mix) u) → HasWholeFrames (rendition s target sub_mix) u
has_whole s target sub_mix u w =
    let r = rendition s target sub_mix in
    record {
      depth = role_depth r.codec.codec_config_id r.codec.num_samples_per_frame r.codec.coding w.depth;
      frames = all_of (λ (m : MixedElement). HasFramesOf r.codec (unit_of r u) m.element) r.elements w.frames;
      apart = w.passed.apart;
      trims = all_of (λ (f : FrameValue). f.trim ≡ first_trim (unit_of r u).frames) (unit_of r u).frames w.passed.alike;
      within = first_within (roles_of s) r.codec.num_samples_per_frame (unit_of r u).frames w.length_is w.passed.all;
    }

-- a sequence has one codec config
only_codec : (cs : List CodecConfigFields) (role : CodecRole) → map role_of_codec cs ≡ role ∷ [] → cs ≡ get_or cs 0 no_codec ∷ []
only_codec [] role e = absurd cc
only_codec (c ∷ []) role e = refl
only_codec (c ∷ d ∷ cs) role e = absurd cc

codec_only : (bytes : List ℕ) (s : List ObuValue) → Reads bytes s → codec_configs s ≡ get_or (codec_configs s) 0 no_codec ∷ []
codec_only bytes s reads =
    let one = one_codec (roles_of s) (sequence_admitted bytes s reads) (sequence_ends bytes s reads) in
    only_codec (codec_configs s) one.0 (sym (codecs_are s) ∙ one.1)

whole_of : (bytes : List ℕ) (s : List ObuValue) (target : Target) (sub_mix : SubMixFields) (u : ℕ) → Reads bytes s → u < length (temporal_units s) → HasWholeFrames (rendition s target sub_mix) u
whole_of bytes s target sub_mix u reads below =
    let c : CodecConfigFields = get_or (codec_configs s) 0 no_codec in
    let begun : u < unit_count (roles_of s) = subst (λ n. u < n) (length-units s) below in
    let has : HasUnit s u c = record {
      admitted = sequence_admitted bytes s reads;
      ends = sequence_ends bytes s reads;
      codec = codecs_are s ∙ ap (map role_of_codec) (codec_only bytes s reads);
      begun = begun;
    } in
    let numbers : HasNumbers c = (subst (Each HasNumbers) (codec_only bytes s reads) (sequence_numbers bytes s reads)).0 in
    has_whole s target sub_mix u (subst (WholeBy s sub_mix.elements c) (sym (unit_at s u no_unit begun)) (whole_by s u sub_mix.elements c has numbers.depth))

-- ---- the rendition of a mix is that of its one sub-mix

of_sub_mix : (P : Rendition → Type 0) (s : List ObuValue) (target : Target) (sub_mixes : List SubMixFields) (r : Rendition) → rendition_of_sub_mixes s target sub_mixes ≡ Some r → ((m : SubMixFields) → P (rendition s target m)) → P r
of_sub_mix P s target [] r e holds = absurd cc
of_sub_mix P s target (m ∷ []) r e holds = subst P (same_Some (rendition s target m) r e) (holds m)
of_sub_mix P s target (m ∷ n ∷ ms) r e holds = absurd cc

of_mix : (P : Rendition → Type 0) (s : List ObuValue) (target : Target) (o : Option MixPresentationFields) (r : Rendition) → rendition_of_mix s target o ≡ Some r → ((m : SubMixFields) → P (rendition s target m)) → P r
of_mix P s target None r e holds = absurd cc
of_mix P s target (Some m) r e holds = of_sub_mix P s target m.sub_mixes r e holds

of_rendition : (P : Rendition → Type 0) (s : List ObuValue) (mix : ℕ) (target : Target) (r : Rendition) → rendition_of s mix target ≡ Some r → ((m : SubMixFields) → P (rendition s target m)) → P r
unfolding rendition_of
of_rendition P s mix target r e holds = of_mix P s target (mix_of s mix) r e holds

pub frames_whole : FramesAreWhole
frames_whole bytes s mix target r u reads e =
    of_rendition (λ r. u < length r.units → HasWholeFrames r u) s mix target r e (λ m below. whole_of bytes s target m u reads below)

pub one_config : OneCodecConfig
one_config bytes s mix target r reads e = of_rendition (λ r. codec_configs s ≡ r.codec ∷ []) s mix target r e (λ m. codec_only bytes s reads)

pub rendition_numbers : (bytes : List ℕ) (s : List ObuValue) (mix : ℕ) (target : Target) (r : Rendition) → Reads bytes s → rendition_of s mix target ≡ Some r → HasNumbers r.codec
rendition_numbers bytes s mix target r reads e = (subst (Each HasNumbers) (one_config bytes s mix target r reads e) (sequence_numbers bytes s reads)).0
