-- What is kept of what OBUs say, with one more OBU.
use Rattle.std.proofs.Common.{Box, Vec, Global, ◌≡◌, ℕ, Bool, true, false, List, [], ◌∷◌, ◌++◌, map, refl, sym, ap, subst, ◌∙◌, inl, inr, append-nil}
use Rattle.std.specs.Prelude.{Option, Some, None, unwrap_or, Result, Ok, Err, OnOk, if◌then◌else◌}
use Rattle.std.specs.Borrow.{Bor}
use Rattle.std.specs.List.{flat_map, All}
use Rattle.std.proofs.lemmas.Bool.{cases_Bool, and_parts}
use Rattle.std.proofs.lemmas.List.{map-append}
use Rattle.std.proofs.lemmas.List.Elements.{All-nil, All-push}
use Rattle.spec_obu.specs.declared.obu_type.ObuType.{ObuType}
use Rattle.spec_obu.specs.declared.obu_type.ObuType.TheVariants as types
use Rattle.spec_obu.specs.declared.trim.Trim.{Trim}
use Rattle.spec_descriptors.specs.SequenceHeader.{SequenceHeaderFields}
use Rattle.spec_descriptors.specs.CodecConfig.{CodecConfigFields}
use Rattle.spec_descriptors.specs.AudioElement.{AudioElementFields}
use Rattle.spec_descriptors.specs.MixPresentation.{MixPresentationFields}
use Rattle.spec_blocks.specs.Shape.{Shape, shape_of}
use Rattle.spec_values.specs.Content as specs
use Rattle.spec_values.specs.Value.{ObuValue}
use Rattle.spec_rules.specs.Role.{Role}
use Rattle.spec_rules.specs.Role as roles
use Rattle.spec_rules.specs.declared.codec_role.CodecRole.{CodecRole}
use Rattle.spec_rules.specs.Descriptors.{profiles, codecs}
use Rattle.spec_rules.specs.Units.{is_data, placed, unit_count}
use Rattle.spec_rules.specs.Rules.{fault_before, fault_after}
use Rattle.spec_rules.specs.Admitted.{IsAdmitted, HasNoFault, type_of_role}
use Rattle.spec_rules.proofs.Basics.{flat_map-push, none_of, unmapped}
use Rattle.spec_rules.proofs.NoFault.{header_before, codec_none}
use Rattle.spec_sequence.specs.ValueRole.{trim_of, role_of_codec, role}
use Rattle.spec_sequence.specs.Reading as reading
use Rattle.spec_sequence.specs.Reading.{Entry, values_of}
use Rattle.spec_sequence.specs.Parts.{header_in, codec_in, element_in, mix_in, frame_of, block_of, sequence_headers, codec_configs, UnitValue, temporal_units}
use Rattle.spec_sequence.proofs.RedundantCopies.{plain_of}
use Rattle.spec_sequence.proofs.Roles.{roles_of_values}
use Rattle.spec_sequence.proofs.RolesOfParts.{profiles_are, codecs_are}
use Rattle.obu_codec_config.specs.HeaderView.{view_header}
use Rattle.obu_descriptors.specs.ElementView.{view_element}
use Rattle.obu_codec_config.specs.declared.sequence_header.SequenceHeader.{SequenceHeader}
use Rattle.obu_codec_config.specs.declared.codec_config.CodecConfig.{CodecConfig}
use Rattle.obu_descriptors.specs.declared.audio_element.AudioElement.{AudioElement}
use Rattle.obu_mix.specs.MixView.{view_mix, tail_of, IsValidMix}
use Rattle.obu_mix.specs.declared.mix_presentation.MixPresentation.{MixPresentation}
use Rattle.obu_data.specs.BlockView.{view_block, IsOpaque, IsKnown}
use Rattle.obu_data.specs.BlockReading.{FollowsShape}
use Rattle.obu_data.specs.FrameReading.{trim_or_none}
use Rattle.obu_data.specs.declared.frame.FrameView.{FrameView}
use Rattle.obu_data.specs.declared.parameter_block.ParameterBlock.{ParameterBlock}
use Rattle.obu_data.specs.declared.parameter_block.BlockContent.{BlockContent}
use Rattle.obu_data.specs.declared.parameter_block.BlockContent.TheVariants.{Opaque, Gain, Demix, Recon}
use Rattle.iamf_obu.specs.declared.content.Content.{Content}
use Rattle.iamf_obu.specs.declared.content.Content.TheVariants as contents
use Rattle.iamf_obu.specs.ContentView.{type_in}
use Rattle.iamf_admission.specs.Numbers.{number_after}
use Rattle.iamf_admission.specs.Taking.{IsSaid, Says}
use Rattle.iamf_sequence.specs.declared.contents.Contents.{Contents}
use Rattle.iamf_sequence.specs.declared.unit.Unit as temporal
use Rattle.iamf_sequence.specs.UnitView.{view_frame, view_block_value, view_unit, HasNoOpaqueTail, IsConsistent, opened, change_last, with_frame, with_block}
use Rattle.iamf_sequence.specs.Tails.{with_tail, with_tails}
use Rattle.iamf_sequence.specs.ContentsView.{AreHeaders, AreCodecs, element_and_tail, mix_and_tail, IsElement, HasNoLater, AreContents, AddsTo}
use Rattle.iamf_sequence.proofs.WithTails.{no_header, no_codec}
use Rattle.iamf_sequence.proofs.Parting.{units-quiet, with_obu, later-none, later-quiet, put_into}

-- ---- what one OBU says, in lists, with its tail

record SaysWithTail (o : ObuValue) (hs : List (SequenceHeaderFields × List ℕ)) (cs : List (CodecConfigFields × List ℕ)) (es : List (AudioElementFields × List ℕ)) (ms : List (MixPresentationFields × List ℕ)) : Type 0 where
  headers : with_tail header_in o ≡ hs
  codecs : with_tail codec_in o ≡ cs
  elements : with_tail element_in o ≡ es
  mixes : with_tail mix_in o ≡ ms

-- what is said, with this tail
abbrev ending : {X : Type 0} → List ℕ → List X → List (X × List ℕ)
ending tail xs = map (λ x. (x, tail)) xs

plain_ends : (o : ObuValue) (c : specs.Content) (tail : List ℕ) → o.head.redundant ≡ false → o.content ≡ c → o.tail ≡ tail → SaysWithTail o (ending tail (header_in c)) (ending tail (codec_in c)) (ending tail (element_in c)) (ending tail (mix_in c))
plain_ends o c tail plain says ends = record { headers = rw (plain, says, ends) refl; codecs = rw (plain, says, ends) refl; elements = rw (plain, says, ends) refl; mixes = rw (plain, says, ends) refl }

copy_ends : (o : ObuValue) → o.head.redundant ≡ true → SaysWithTail o [] [] [] []
copy_ends o copy = record { headers = rw copy refl; codecs = rw copy refl; elements = rw copy refl; mixes = rw copy refl }

nothing_ends : (o : ObuValue) → o.content ≡ specs.Nothing → SaysWithTail o [] [] [] []
nothing_ends o says = elim (cases_Bool o.head.redundant) [ inl copy ↦ copy_ends o copy | inr plain ↦ plain_ends o specs.Nothing o.tail plain says refl ]

-- ---- the lists with those of the OBU

-- descriptors
record AreKept (k : Contents) (s : List ObuValue) (hs : List (SequenceHeaderFields × List ℕ)) (cs : List (CodecConfigFields × List ℕ)) (es : List (AudioElementFields × List ℕ)) (ms : List (MixPresentationFields × List ℕ)) : Type 0 where
  header : AreHeaders k.header (with_tails header_in s ++ hs)
  codec : AreCodecs k.codec (with_tails codec_in s ++ cs)
  elements : map element_and_tail k.elements.items ≡ with_tails element_in s ++ es
  valid : All IsElement k.elements.items
  mixes : map mix_and_tail k.mixes.items ≡ with_tails mix_in s ++ ms
  valid_mixes : All IsValidMix k.mixes.items

-- and units
record AreUnitsKept (us : List temporal.Unit) (s : List ObuValue) : Type 0 where
  units : map view_unit us ≡ temporal_units s
  consistent : All IsConsistent us
  later : HasNoLater s

keeps_with : (k : Contents) (s : List ObuValue) (o : ObuValue) (hs : List (SequenceHeaderFields × List ℕ)) (cs : List (CodecConfigFields × List ℕ)) (es : List (AudioElementFields × List ℕ)) (ms : List (MixPresentationFields × List ℕ))
    → SaysWithTail o hs cs es ms → AreKept k s hs cs es ms → AreUnitsKept k.units.items (s ++ o ∷ []) → AreContents k (s ++ o ∷ [])
unfolding with_tails
keeps_with k s o hs cs es ms says kept units = record {
  header = subst (AreHeaders k.header) (sym (flat_map-push (with_tail header_in) s o ∙ ap (λ xs. flat_map (with_tail header_in) s ++ xs) says.headers)) kept.header;
  codec = subst (AreCodecs k.codec) (sym (flat_map-push (with_tail codec_in) s o ∙ ap (λ xs. flat_map (with_tail codec_in) s ++ xs) says.codecs)) kept.codec;
  elements = kept.elements ∙ sym (flat_map-push (with_tail element_in) s o ∙ ap (λ xs. flat_map (with_tail element_in) s ++ xs) says.elements);
  valid = kept.valid;
  mixes = kept.mixes ∙ sym (flat_map-push (with_tail mix_in) s o ∙ ap (λ xs. flat_map (with_tail mix_in) s ++ xs) says.mixes);
  valid_mixes = kept.valid_mixes;
  units = units.units;
  consistent = units.consistent;
  later = units.later;
}

-- nothing more
kept_as_before : (k : Contents) (s : List ObuValue) → AreContents k s → AreKept k s [] [] [] []
kept_as_before k s keeps = record {
  header = rw append-nil keeps.header;
  codec = rw append-nil keeps.codec;
  elements = rw append-nil keeps.elements;
  valid = keeps.valid;
  mixes = rw append-nil keeps.mixes;
  valid_mixes = keeps.valid_mixes;
}

units_as_before : (k : Contents) (s : List ObuValue) (o : ObuValue) → is_data (role o) ≡ false → AreContents k s → AreUnitsKept k.units.items (s ++ o ∷ [])
units_as_before k s o quiet keeps = record {
  units = keeps.units ∙ sym (units-quiet s o quiet);
  consistent = keeps.consistent;
  later = later-quiet s o quiet keeps.later;
}

-- ---- OBUs that say nothing

pub keeps_none : (k : Contents) → k.header ≡ None → k.codec ≡ None → k.elements.items ≡ [] → k.mixes.items ≡ [] → k.units.items ≡ [] → AreContents k []
unfolding with_tails temporal_units unit_count placed
keeps_none k no_header no_codec no_element no_mix no_unit = record {
  header = rw no_header refl;
  codec = rw no_codec refl;
  elements = rw no_element refl;
  valid = rw no_element (All-nil IsElement);
  mixes = rw no_mix refl;
  valid_mixes = rw no_mix (All-nil IsValidMix);
  units = rw no_unit refl;
  consistent = rw no_unit (All-nil IsConsistent);
  later = later-none;
}

-- a redundant copy
keeps_copy : (k : Contents) (s : List ObuValue) (o : ObuValue) → AreContents k s → o.head.redundant ≡ true → AreContents k (s ++ o ∷ [])
keeps_copy k s o keeps copy = keeps_with k s o [] [] [] [] (copy_ends o copy) (kept_as_before k s keeps) (units_as_before k s o (rw copy refl) keeps)

-- ---- one OBU is kept

-- what was kept of OBUs before is this with one more
abbrev pub IsKeptBy : Contents → Contents → Content → ℕ → Type 0
IsKeptBy old new content unit =
    (past : List Entry) (e : Entry) → AreContents old (values_of past) → IsAdmitted (reading.roles past) → IsSaid content past e → AddsTo unit (reading.roles past) (role e.value) → AreContents new (values_of past ++ e.value ∷ [])

-- it is no redundant copy, unless it is reserved
plain : (content : Content) (past : List Entry) (e : Entry) (t : ObuType) → IsSaid content past e → t ≡ type_in content → (t ≡ types.Reserved → ⊥) → e.value.head.redundant ≡ false
plain content past e t said is other = plain_of e.value.head t said.plain (is ∙ said.obu_type) other

first_header : (past : List Entry) (o : Role) (p : ℕ) → HasNoFault (reading.roles past) o → o ≡ roles.SequenceHeader p → sequence_headers (values_of past) ≡ []
first_header past o p none is =
    let h = header_before (reading.roles past) (sym (ap (λ (r : Role). fault_before (reading.roles past) (type_of_role r)) is) ∙ none.early) in
    unmapped (λ h. h.primary_profile) (sequence_headers (values_of past)) (sym (profiles_are (values_of past)) ∙ ap profiles (roles_of_values past) ∙ none_of (profiles (reading.roles past)) h)

first_codec : (past : List Entry) (o : Role) (c : CodecRole) → HasNoFault (reading.roles past) o → o ≡ roles.CodecConfig c → codec_configs (values_of past) ≡ []
first_codec past o c none is =
    unmapped role_of_codec (codec_configs (values_of past)) (sym (codecs_are (values_of past)) ∙ ap codecs (roles_of_values past) ∙ codec_none (reading.roles past) c (sym (ap (fault_after (reading.roles past)) is) ∙ none.late))

pub keeps_header : (k : Contents) (h : SequenceHeader) (unit : ℕ) → IsKeptBy k (record k { header = Some h }) (contents.SequenceHeader h) unit
keeps_header k h unit past e keeps admitted said adds =
    let s = values_of past in
    let o = e.value in
    let p : o.head.redundant ≡ false = plain (contents.SequenceHeader h) past e types.SequenceHeader said refl (λ x. cc) in
    let is : role o ≡ roles.SequenceHeader h.primary = rw (p, said.holds.0) refl in
    let old = kept_as_before k s keeps in
    keeps_with (record k { header = Some h }) s o ((view_header h, h.tail.now) ∷ []) [] [] [] (plain_ends o (specs.Header (view_header h)) h.tail.now p said.holds.0 said.holds.1)
    (record {
      header = ap (λ (hs : List (SequenceHeaderFields × List ℕ)). hs ++ (view_header h, h.tail.now) ∷ []) (no_header s (first_header past (role o) h.primary said.faultless is));
      codec = old.codec;
      elements = old.elements;
      valid = old.valid;
      mixes = old.mixes;
      valid_mixes = old.valid_mixes;
    })
    (units_as_before k s o (ap is_data is) keeps)

pub keeps_codec : (k : Contents) (r : CodecConfig) (unit : ℕ) → IsKeptBy k (record k { codec = Some r }) (contents.CodecConfig r) unit
keeps_codec k r unit past e keeps admitted said adds =
    let s = values_of past in
    let o = e.value in
    let p : o.head.redundant ≡ false = plain (contents.CodecConfig r) past e types.CodecConfig said refl (λ x. cc) in
    let is : role o ≡ roles.CodecConfig (role_of_codec said.holds.0) = rw (p, said.holds.3) refl in
    let old = kept_as_before k s keeps in
    keeps_with (record k { codec = Some r }) s o [] ((said.holds.0, r.tail.now) ∷ []) [] [] (plain_ends o (specs.Codec said.holds.0) r.tail.now p said.holds.3 said.holds.4)
    (record {
      header = old.header;
      codec = (said.holds.0, ap (λ (cs : List (CodecConfigFields × List ℕ)). cs ++ (said.holds.0, r.tail.now) ∷ []) (no_codec s (first_codec past (role o) (role_of_codec said.holds.0) said.faultless is)), said.holds.1);
      elements = old.elements;
      valid = old.valid;
      mixes = old.mixes;
      valid_mixes = old.valid_mixes;
    })
    (units_as_before k s o (ap is_data is) keeps)

pub keeps_element : (k : Contents) (es : Vec AudioElement Global) (x : Box AudioElement Global) (unit : ℕ) → es.items ≡ k.elements.items ++ x.value ∷ [] → IsKeptBy k (record k { elements = es }) (contents.AudioElement x) unit
keeps_element k es x unit more past e keeps admitted said adds =
    let s = values_of past in
    let o = e.value in
    let p : o.head.redundant ≡ false = plain (contents.AudioElement x) past e types.AudioElement said refl (λ y. cc) in
    let old = kept_as_before k s keeps in
    keeps_with (record k { elements = es }) s o [] [] (element_and_tail x.value ∷ []) [] (plain_ends o (specs.Element (view_element x.value)) x.value.tail.now p said.holds.0 said.holds.1)
    (record {
      header = old.header;
      codec = old.codec;
      elements = ap (map element_and_tail) more ∙ map-append element_and_tail k.elements.items (x.value ∷ []) ∙ ap (λ (xs : List (AudioElementFields × List ℕ)). xs ++ element_and_tail x.value ∷ []) keeps.elements;
      valid = rw more (All-push IsElement k.elements.items x.value keeps.valid ((reading.context_after past).frame_length, said.valid));
      mixes = old.mixes;
      valid_mixes = old.valid_mixes;
    })
    (units_as_before k s o (rw (p, said.holds.0) refl) keeps)

pub keeps_mix : (k : Contents) (ms : Vec MixPresentation Global) (m : Box MixPresentation Global) (unit : ℕ) → ms.items ≡ k.mixes.items ++ m.value ∷ [] → IsKeptBy k (record k { mixes = ms }) (contents.MixPresentation m) unit
keeps_mix k ms m unit more past e keeps admitted said adds =
    let s = values_of past in
    let o = e.value in
    let p : o.head.redundant ≡ false = plain (contents.MixPresentation m) past e types.MixPresentation said refl (λ y. cc) in
    let old = kept_as_before k s keeps in
    keeps_with (record k { mixes = ms }) s o [] [] [] (mix_and_tail m.value ∷ []) (plain_ends o (specs.Mix (view_mix m.value)) (tail_of m.value) p said.holds.0 said.holds.1)
    (record {
      header = old.header;
      codec = old.codec;
      elements = old.elements;
      valid = old.valid;
      mixes = ap (map mix_and_tail) more ∙ map-append mix_and_tail k.mixes.items (m.value ∷ []) ∙ ap (λ (xs : List (MixPresentationFields × List ℕ)). xs ++ mix_and_tail m.value ∷ []) keeps.mixes;
      valid_mixes = rw more (All-push IsValidMix k.mixes.items m.value keeps.valid_mixes said.valid);
    })
    (units_as_before k s o (rw (p, said.holds.0) refl) keeps)

pub keeps_reserved : (k : Contents) (bytes : Bor (List ℕ)) (unit : ℕ) → IsKeptBy k k (contents.Reserved bytes) unit
keeps_reserved k bytes unit past e keeps admitted said adds =
    let s = values_of past in
    let o = e.value in
    keeps_with k s o [] [] [] [] (nothing_ends o said.holds.0) (kept_as_before k s keeps) (units_as_before k s o (rw (said.holds.0, sym said.obu_type) (one o.head.redundant)) keeps)
  where
    one : (b : Bool) → is_data (if b then roles.Ignored else roles.Ignored) ≡ false
    one true = refl
    one false = refl

-- ---- data OBUs

change_last-same : (f g : UnitValue → UnitValue) → ((v : UnitValue) → f v ≡ g v) → (vs : List UnitValue) → change_last f vs ≡ change_last g vs
change_last-same f g same [] = refl
change_last-same f g same (v ∷ []) = ap (λ (w : UnitValue). w ∷ []) (same v)
change_last-same f g same (v ∷ w ∷ vs) = ap (λ (ws : List UnitValue). v ∷ ws) (change_last-same f g same (w ∷ vs))

change_last-none : (vs : List UnitValue) → change_last (λ v. v) vs ≡ vs
change_last-none [] = refl
change_last-none (v ∷ []) = refl
change_last-none (v ∷ w ∷ vs) = ap (λ (ws : List UnitValue). v ∷ ws) (change_last-none (w ∷ vs))

units_with : (k : Contents) (us : List temporal.Unit) (past : List Entry) (o : ObuValue) (unit : ℕ) (change : UnitValue → UnitValue) → ((v : UnitValue) → change v ≡ with_obu o v) → is_data (role o) ≡ true
    → IsAdmitted (reading.roles past) → HasNoFault (reading.roles past) (role o) → AddsTo unit (reading.roles past) (role o) → AreContents k (values_of past)
    → map view_unit us ≡ change_last change (opened unit (map view_unit k.units.items)) → (All IsConsistent k.units.items → All IsConsistent us) → AreUnitsKept us (values_of past ++ o ∷ [])
units_with k us past o unit change is_change data_obu admitted none adds keeps is consistent =
    let put = put_into past o unit data_obu admitted none adds keeps.later in
    record {
      units = is ∙ change_last-same change (with_obu o) is_change (opened unit (map view_unit k.units.items)) ∙ ap (λ (vs : List UnitValue). change_last (with_obu o) (opened unit vs)) keeps.units ∙ sym put.units;
      consistent = consistent keeps.consistent;
      later = put.later;
    }

trims_are : (t : Option Trim) → trim_of t ≡ trim_or_none t
trims_are None = refl
trims_are (Some t) = refl

frame_is : (o : ObuValue) (f : FrameView) → o.content ≡ specs.Frame f.substream → o.tail ≡ f.bytes.now → f.trim ≡ trim_or_none o.head.trim → frame_of o ≡ view_frame f ∷ []
frame_is o f content tail trim = rw (content, tail, trim, trims_are o.head.trim) refl

frame_change : (o : ObuValue) (f : FrameView) → frame_of o ≡ view_frame f ∷ [] → block_of o ≡ [] → (v : UnitValue) → with_frame f v ≡ with_obu o v
unfolding with_obu
frame_change o f frames blocks v = rw (frames, blocks, append-nil) refl

block_change : (o : ObuValue) (b : ParameterBlock) → frame_of o ≡ [] → block_of o ≡ view_block_value b ∷ [] → (v : UnitValue) → with_block b v ≡ with_obu o v
unfolding with_obu
block_change o b frames blocks v = rw (frames, blocks, append-nil) refl

no_change : (o : ObuValue) → frame_of o ≡ [] → block_of o ≡ [] → (v : UnitValue) → v ≡ with_obu o v
unfolding with_obu
no_change o frames blocks v = rw (frames, blocks, append-nil, append-nil) refl

-- a block that was read by its definition, or without one
no_opaque_tail : (shape : Option Shape) (b : ParameterBlock) → FollowsShape shape b → HasNoOpaqueTail b
no_opaque_tail None b follows = λ opaque. follows.1
no_opaque_tail (Some shape) b follows = λ opaque. absurd (both b.content opaque follows) where
  both : (c : BlockContent) → IsOpaque c → IsKnown c → ⊥
  both (Opaque bytes) opaque known = known
  both (Gain timing parts) opaque known = opaque
  both (Demix mode) opaque known = opaque
  both (Recon layers) opaque known = opaque

-- the units became these
abbrev pub Changed : Contents → Vec temporal.Unit Global → ℕ → (UnitValue → UnitValue) → Type 0
Changed k units unit change = map view_unit units.items ≡ change_last change (opened unit (map view_unit k.units.items))

abbrev pub StayConsistent : Contents → Vec temporal.Unit Global → Type 0
StayConsistent k units = All IsConsistent k.units.items → All IsConsistent units.items

keeps_frame : (k : Contents) (units : Vec temporal.Unit Global) (f : FrameView) (unit : ℕ) → Changed k units unit (with_frame f) → StayConsistent k units → IsKeptBy k (record k { units = units }) (contents.AudioFrame f) unit
keeps_frame k units f unit is stay past e keeps admitted said adds =
    let s = values_of past in
    let o = e.value in
    let p : o.head.redundant ≡ false = plain (contents.AudioFrame f) past e types.AudioFrame said refl (λ y. cc) in
    let old = kept_as_before k s keeps in
    keeps_with (record k { units = units }) s o [] [] [] [] (plain_ends o (specs.Frame f.substream) o.tail p said.holds.0 refl)
    (record { header = old.header; codec = old.codec; elements = old.elements; valid = old.valid; mixes = old.mixes; valid_mixes = old.valid_mixes })
    (units_with k units.items past o unit (with_frame f) (frame_change o f (frame_is o f said.holds.0 said.holds.1 said.trims) (rw said.holds.0 refl)) (rw (p, said.holds.0) refl) admitted said.faultless adds keeps is stay)

keeps_block : (k : Contents) (units : Vec temporal.Unit Global) (b : ParameterBlock) (unit : ℕ) → Changed k units unit (with_block b) → (HasNoOpaqueTail b → StayConsistent k units) → IsKeptBy k (record k { units = units }) (contents.ParameterBlock b) unit
keeps_block k units b unit is stay past e keeps admitted said adds =
    let s = values_of past in
    let o = e.value in
    let p : o.head.redundant ≡ false = plain (contents.ParameterBlock b) past e types.ParameterBlock said refl (λ y. cc) in
    let old = kept_as_before k s keeps in
    let opaque : HasNoOpaqueTail b = no_opaque_tail (shape_of (reading.context_after past).definitions b.id) b said.valid.1 in
    keeps_with (record k { units = units }) s o [] [] [] [] (plain_ends o (specs.Block (view_block b)) o.tail p said.holds.0 refl)
    (record { header = old.header; codec = old.codec; elements = old.elements; valid = old.valid; mixes = old.mixes; valid_mixes = old.valid_mixes })
    (units_with k units.items past o unit (with_block b) (block_change o b (rw said.holds.0 refl) (rw (said.holds.0, said.holds.1) refl)) (rw (p, said.holds.0) refl) admitted said.faultless adds keeps is (stay opaque))

keeps_delimiter : (k : Contents) (units : Vec temporal.Unit Global) (bytes : Bor (List ℕ)) (unit : ℕ) → map view_unit units.items ≡ opened unit (map view_unit k.units.items) → StayConsistent k units
    → IsKeptBy k (record k { units = units }) (contents.TemporalDelimiter bytes) unit
keeps_delimiter k units bytes unit is stay past e keeps admitted said adds =
    let s = values_of past in
    let o = e.value in
    let p : o.head.redundant ≡ false = plain (contents.TemporalDelimiter bytes) past e types.TemporalDelimiter said refl (λ y. cc) in
    let old = kept_as_before k s keeps in
    keeps_with (record k { units = units }) s o [] [] [] [] (nothing_ends o said.holds.0)
    (record { header = old.header; codec = old.codec; elements = old.elements; valid = old.valid; mixes = old.mixes; valid_mixes = old.valid_mixes })
    (units_with k units.items past o unit (λ v. v) (no_change o (rw said.holds.0 refl) (rw said.holds.0 refl)) (rw (p, said.holds.0, sym said.obu_type) refl) admitted said.faultless adds keeps
    (is ∙ sym (change_last-none (opened unit (map view_unit k.units.items)))) stay)

-- ---- unless memory ran out

pub kept_frame : {E : Type 0} (r : Result (Unit {0}) E) (k : Contents) (units : Vec temporal.Unit Global) (f : FrameView) (unit : ℕ) → OnOk r (Changed k units unit (with_frame f)) → OnOk r (StayConsistent k units)
    → OnOk r (IsKeptBy k (record k { units = units }) (contents.AudioFrame f) unit)
kept_frame (Ok u) k units f unit is stay = keeps_frame k units f unit is stay
kept_frame (Err e) k units f unit is stay = tt

pub kept_block : {E : Type 0} (r : Result (Unit {0}) E) (k : Contents) (units : Vec temporal.Unit Global) (b : ParameterBlock) (unit : ℕ) → OnOk r (Changed k units unit (with_block b)) → OnOk r (HasNoOpaqueTail b → StayConsistent k units)
    → OnOk r (IsKeptBy k (record k { units = units }) (contents.ParameterBlock b) unit)
kept_block (Ok u) k units b unit is stay = keeps_block k units b unit is stay
kept_block (Err e) k units b unit is stay = tt

pub kept_delimiter : {E : Type 0} (r : Result (Unit {0}) E) (k : Contents) (units : Vec temporal.Unit Global) (bytes : Bor (List ℕ)) (unit : ℕ) → OnOk r (map view_unit units.items ≡ opened unit (map view_unit k.units.items)) → OnOk r (StayConsistent k units)
    → OnOk r (IsKeptBy k (record k { units = units }) (contents.TemporalDelimiter bytes) unit)
kept_delimiter (Ok u) k units bytes unit is stay = keeps_delimiter k units bytes unit is stay
kept_delimiter (Err e) k units bytes unit is stay = tt

-- ---- the number of its unit, as it is handed out

-- with what an OBU says, and with the number of its unit
abbrev pub Keeps : Contents → Contents → Option Content → Option ℕ → Type 0
Keeps old new content unit =
    (past : List Entry) (e : Entry) → AreContents old (values_of past) → IsAdmitted (reading.roles past) → Says content past e → unit ≡ number_after (reading.roles past) (role e.value) → AreContents new (values_of past ++ e.value ∷ [])

numbered : (unit : Option ℕ) (n : ℕ) (l : List Role) (o : Role) → n ≡ unwrap_or unit 0 → unit ≡ number_after l o → AddsTo n l o
numbered unit n l o is same = λ data_obu. is ∙ ap (λ (u : Option ℕ). unwrap_or u 0) same ∙ rw data_obu refl

pub kept_some : {E : Type 0} (r : Result (Unit {0}) E) (old new : Contents) (content : Content) (unit : Option ℕ) (n : ℕ) → n ≡ unwrap_or unit 0 → OnOk r (IsKeptBy old new content n) → OnOk r (Keeps old new (Some content) unit)
kept_some (Ok u) old new content unit n is kept = λ past e keeps admitted said same. kept past e keeps admitted said (numbered unit n (reading.roles past) (role e.value) is same)
kept_some (Err x) old new content unit n is kept = tt

pub kept_none : (k : Contents) (unit : Option ℕ) → Keeps k k None unit
kept_none k unit past e keeps admitted copy same = keeps_copy k (values_of past) e.value keeps (and_parts e.value.head.redundant _ copy).0
