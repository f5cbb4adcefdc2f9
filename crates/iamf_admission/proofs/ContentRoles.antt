-- The role of what was read is that of the OBU.
use Rattle.std.proofs.Common.{◌≡◌, ℕ, Bool, true, false, ◌⊎◌, inl, inr, List, [], ◌∷◌, map, refl, sym, ap, ◌∙◌, arith}
use Rattle.std.specs.Prelude.{Option, Some, None, if◌then◌else◌}
use Rattle.std.proofs.lemmas.List.{length-map}
use Rattle.spec_obu.specs.Header.{Head, is_copy}
use Rattle.spec_obu.specs.Kinds.{obu_type_of}
use Rattle.spec_obu.specs.declared.obu_type.ObuType.TheVariants as types
use Rattle.spec_obu.specs.declared.trim.Trim.{Trim}
use Rattle.spec_descriptors.specs.CodecConfig.{CodingFields, CodecConfigFields}
use Rattle.spec_blocks.specs.Shape.{Definition}
use Rattle.spec_values.specs.declared.fault.Fault.{Fault}
use Rattle.spec_values.specs.declared.fault.Fault.TheVariants.{Unknown}
use Rattle.spec_values.specs.Content as said
use Rattle.spec_rules.specs.Role as roles
use Rattle.spec_rules.specs.Role.{Role, ElementRole, AudioElement, Ignored}
use Rattle.spec_rules.specs.declared.codec_role.CodecRole.{CodecRole}
use Rattle.spec_rules.specs.Descriptors.{codecs, substreams, definitions, first_length, frame_length}
use Rattle.spec_rules.specs.Rules.{first_of, repeated, unknown, clashing, element_ids, fault_after}
use Rattle.spec_rules.specs.Admitted.{type_of_role}
use Rattle.spec_rules.proofs.NoFault.{element_none}
use Rattle.spec_sequence.specs.ValueRole.{codec_role, role_of_codec, element_role, trim_of, role_of_nothing, plain_role, role_in}
use Rattle.spec_sequence.proofs.RedundantCopies.{plain_of}
use Rattle.obu_codec_config.specs.CodecView.{StandsForCoding, StandsForCodec}
use Rattle.obu_codec_config.specs.declared.codec_config.CodecConfig.{CodecConfig}
use Rattle.obu_codec_config.specs.declared.codec_config.Coding.{Coding}
use Rattle.obu_codec_config.specs.declared.codec_config.Coding.TheVariants as coding
use Rattle.obu_descriptors.specs.ElementView.{view_element}
use Rattle.obu_mix.specs.SubMixView.{view_sub_mix}
use Rattle.obu_data.specs.FrameReading.{trim_or_none}
use Rattle.obu_data.specs.DefinitionView.{view_definition}
use Rattle.iamf_obu.specs.declared.content.Content.{Content}
use Rattle.iamf_obu.specs.declared.content.Content.TheVariants as contents
use Rattle.iamf_obu.specs.ContentView.{type_in, Holds, HasTrims}
use Rattle.iamf_admission.specs.declared.parts.Parts.{Parts}
use Rattle.iamf_admission.specs.PartsView.{view_channels, HasParts, coding_role, codec_role_in, role_with}
use Rattle.iamf_admission.specs.Standing.{FramesLast}

-- ---- the type of a role

pub type_with : (content : Content) (p : Parts) → type_of_role (role_with content p) ≡ type_in content
type_with (contents.SequenceHeader h) p = refl
type_with (contents.CodecConfig r) p = refl
type_with (contents.AudioElement e) p = refl
type_with (contents.MixPresentation m) p = refl
type_with (contents.ParameterBlock b) p = refl
type_with (contents.TemporalDelimiter bytes) p = refl
type_with (contents.AudioFrame f) p = refl
type_with (contents.Reserved bytes) p = refl

-- ---- codec configs and trims

coding_is : (id n : ℕ) (a : Coding) (b : CodingFields) → StandsForCoding a b → coding_role id n a ≡ codec_role id n b
coding_is id n (coding.Lpcm little depth rate) b h = rw h refl
coding_is id n (coding.Flac blocks depth rate) b h = rw (h.is, h.depth_is, h.rate_is) refl

pub codec_is : (r : CodecConfig) (w : CodecConfigFields) → StandsForCodec r w → codec_role_in r ≡ role_of_codec w
codec_is r w h = rw (h.id, h.frame_length) (coding_is w.codec_config_id w.num_samples_per_frame r.coding w.coding h.coding_is)

same_trim : (t : Option Trim) → trim_or_none t ≡ trim_of t
same_trim None = refl
same_trim (Some t) = refl

-- ---- an OBU that is no redundant copy

-- where the definitions of an element were made
plain_with : (h : Head) (content : Content) (p : Parts) (n : ℕ) (c : said.Content) (tail : List ℕ) → (n ≡ 0 → ⊥) → HasParts n content p → Holds content c tail → type_in content ≡ obu_type_of h.kind → HasTrims content h.trim
    → role_with content p ≡ plain_role h c tail
plain_with h (contents.SequenceHeader x) p n c tail some parts holds type trims = rw holds.0 refl
plain_with h (contents.CodecConfig r) p n c tail some parts holds type trims = rw holds.3 (ap roles.CodecConfig (codec_is r holds.0 holds.1))
plain_with h (contents.AudioElement e) p n c tail some parts holds type trims = let defined = parts.definitions some in rw (holds.0, parts.channels, defined.are) refl
plain_with h (contents.MixPresentation m) p n c tail some parts holds type trims = rw (holds.0, parts.elements, parts.definitions.are, length-map m.value.sub_mixes.items view_sub_mix) refl
plain_with h (contents.ParameterBlock b) p n c tail some parts holds type trims = rw holds.0 refl
plain_with h (contents.TemporalDelimiter bytes) p n c tail some parts holds type trims = ap role_of_nothing type ∙ ap (λ (d : said.Content). plain_role h d tail) (sym holds.0)
plain_with h (contents.AudioFrame f) p n c tail some parts holds type trims = rw (holds.0, holds.1, trims, same_trim h.trim) refl
plain_with h (contents.Reserved bytes) p n c tail some parts holds type trims = ap role_of_nothing type ∙ ap (λ (d : said.Content). plain_role h d tail) (sym holds.0)

-- ---- an element without a codec config

-- its definitions are not looked at
no_codec : (l : List Role) (e : ElementRole) (channels : Option (List ℕ)) (ds : List Definition) → codecs l ≡ []
    → fault_after l (AudioElement (record e { channels = channels; definitions = ds })) ≡ fault_after l (AudioElement e)
unfolding fault_after
no_codec l e channels ds none = rw none (one (repeated (element_ids l) (e.id ∷ [])) (repeated (substreams l) e.substreams))
  where
    one : (a b : Option Fault) → first_of (a ∷ b ∷ Some (Unknown e.codec) ∷ clashing (definitions l) ds ∷ []) ≡ first_of (a ∷ b ∷ Some (Unknown e.codec) ∷ clashing (definitions l) e.definitions ∷ [])
    one (Some f) b = refl
    one None (Some f) = refl
    one None None = refl

unknown_codec : (cs : List CodecRole) (id : ℕ) → cs ≡ [] → unknown (map (λ c. c.id) cs) (id ∷ []) ≡ None → ⊥
unknown_codec [] id none h = cc
unknown_codec (c ∷ cs) id none h = cc

-- ---- its role after a list

-- where an element stands, or where frames are not empty
abbrev HasMade : ℕ → Content → Type 0
HasMade n (contents.AudioElement e) = n ≡ 0 → ⊥
HasMade n _ = Unit {0}

plain_made : (h : Head) (content : Content) (p : Parts) (n : ℕ) (c : said.Content) (tail : List ℕ) → HasMade n content → HasParts n content p → Holds content c tail → type_in content ≡ obu_type_of h.kind → HasTrims content h.trim
    → role_with content p ≡ plain_role h c tail
plain_made h (contents.SequenceHeader x) p n c tail made parts holds type trims = plain_with h (contents.SequenceHeader x) p 1 c tail (λ e. cc) parts holds type trims
plain_made h (contents.CodecConfig r) p n c tail made parts holds type trims = plain_with h (contents.CodecConfig r) p 1 c tail (λ e. cc) parts holds type trims
plain_made h (contents.AudioElement e) p n c tail made parts holds type trims = plain_with h (contents.AudioElement e) p n c tail made parts holds type trims
plain_made h (contents.MixPresentation m) p n c tail made parts holds type trims = plain_with h (contents.MixPresentation m) p 1 c tail (λ e. cc) parts holds type trims
plain_made h (contents.ParameterBlock b) p n c tail made parts holds type trims = plain_with h (contents.ParameterBlock b) p 1 c tail (λ e. cc) parts holds type trims
plain_made h (contents.TemporalDelimiter bytes) p n c tail made parts holds type trims = plain_with h (contents.TemporalDelimiter bytes) p 1 c tail (λ e. cc) parts holds type trims
plain_made h (contents.AudioFrame f) p n c tail made parts holds type trims = plain_with h (contents.AudioFrame f) p 1 c tail (λ e. cc) parts holds type trims
plain_made h (contents.Reserved bytes) p n c tail made parts holds type trims = plain_with h (contents.Reserved bytes) p 1 c tail (λ e. cc) parts holds type trims

-- an OBU that is no copy has the role of a plain one
pub plain_in : (h : Head) (content : Content) (c : said.Content) (tail : List ℕ) → is_copy h ≡ false → type_in content ≡ obu_type_of h.kind → Holds content c tail → plain_role h c tail ≡ role_in h c tail
plain_in h (contents.SequenceHeader x) c tail copy type holds = rw (plain_of h types.SequenceHeader copy type (λ e. cc)) refl
plain_in h (contents.CodecConfig r) c tail copy type holds = rw (plain_of h types.CodecConfig copy type (λ e. cc)) refl
plain_in h (contents.AudioElement e) c tail copy type holds = rw (plain_of h types.AudioElement copy type (λ e. cc)) refl
plain_in h (contents.MixPresentation m) c tail copy type holds = rw (plain_of h types.MixPresentation copy type (λ e. cc)) refl
plain_in h (contents.ParameterBlock b) c tail copy type holds = rw (plain_of h types.ParameterBlock copy type (λ e. cc)) refl
plain_in h (contents.TemporalDelimiter bytes) c tail copy type holds = rw (plain_of h types.TemporalDelimiter copy type (λ e. cc)) refl
plain_in h (contents.AudioFrame f) c tail copy type holds = rw (plain_of h types.AudioFrame copy type (λ e. cc)) refl
plain_in h (contents.Reserved bytes) c tail copy type holds = is ∙ sym (one h.redundant)
  where
    is : plain_role h c tail ≡ Ignored
    is = ap (λ (d : said.Content). plain_role h d tail) holds.0 ∙ ap role_of_nothing (sym type)

    one : (b : Bool) → (if b then Ignored else plain_role h c tail) ≡ Ignored
    one true = refl
    one false = is

lasting : (cs : List CodecRole) → FramesLast cs → (cs ≡ []) ⊎ (first_length cs ≡ 0 → ⊥)
lasting [] last = inl refl
lasting (c ∷ cs) last = inr (λ e. omega (arith, last, e))

lasts : (l : List Role) → FramesLast (codecs l) → (codecs l ≡ []) ⊎ (frame_length l ≡ 0 → ⊥)
unfolding frame_length
lasts l last = lasting (codecs l) last

made : (n : ℕ) (content : Content) → (n ≡ 0 → ⊥) → HasMade n content
made n (contents.AudioElement e) some = some
made n (contents.SequenceHeader x) some = tt
made n (contents.CodecConfig r) some = tt
made n (contents.MixPresentation m) some = tt
made n (contents.ParameterBlock b) some = tt
made n (contents.TemporalDelimiter bytes) some = tt
made n (contents.AudioFrame f) some = tt
made n (contents.Reserved bytes) some = tt

-- without a codec config
bare : (l : List Role) (h : Head) (content : Content) (p : Parts) (n : ℕ) (c : said.Content) (tail : List ℕ) → codecs l ≡ [] → HasParts n content p → Holds content c tail → type_in content ≡ obu_type_of h.kind → HasTrims content h.trim
    → fault_after l (role_with content p) ≡ fault_after l (plain_role h c tail)
bare l h (contents.AudioElement e) p n c tail none parts holds type trims =
    rw holds.0 (no_codec l (element_role (view_element e.value)) (view_channels p.channels) (map view_definition p.definitions.items) none)
bare l h (contents.SequenceHeader x) p n c tail none parts holds type trims = ap (fault_after l) (plain_made h (contents.SequenceHeader x) p n c tail tt parts holds type trims)
bare l h (contents.CodecConfig r) p n c tail none parts holds type trims = ap (fault_after l) (plain_made h (contents.CodecConfig r) p n c tail tt parts holds type trims)
bare l h (contents.MixPresentation m) p n c tail none parts holds type trims = ap (fault_after l) (plain_made h (contents.MixPresentation m) p n c tail tt parts holds type trims)
bare l h (contents.ParameterBlock b) p n c tail none parts holds type trims = ap (fault_after l) (plain_made h (contents.ParameterBlock b) p n c tail tt parts holds type trims)
bare l h (contents.TemporalDelimiter bytes) p n c tail none parts holds type trims = ap (fault_after l) (plain_made h (contents.TemporalDelimiter bytes) p n c tail tt parts holds type trims)
bare l h (contents.AudioFrame f) p n c tail none parts holds type trims = ap (fault_after l) (plain_made h (contents.AudioFrame f) p n c tail tt parts holds type trims)
bare l h (contents.Reserved bytes) p n c tail none parts holds type trims = ap (fault_after l) (plain_made h (contents.Reserved bytes) p n c tail tt parts holds type trims)

-- an element without a codec config is refused
refused : (l : List Role) (h : Head) (content : Content) (c : said.Content) (tail : List ℕ) (n : ℕ) → codecs l ≡ [] → Holds content c tail → fault_after l (plain_role h c tail) ≡ None → HasMade n content
refused l h (contents.AudioElement e) c tail n none holds late =
    let d = element_role (view_element e.value) in
    absurd (unknown_codec (codecs l) d.codec none (element_none l d (ap (λ (x : said.Content). fault_after l (plain_role h x tail)) (sym holds.0) ∙ late)).2)
refused l h (contents.SequenceHeader x) c tail n none holds late = tt
refused l h (contents.CodecConfig r) c tail n none holds late = tt
refused l h (contents.MixPresentation m) c tail n none holds late = tt
refused l h (contents.ParameterBlock b) c tail n none holds late = tt
refused l h (contents.TemporalDelimiter bytes) c tail n none holds late = tt
refused l h (contents.AudioFrame f) c tail n none holds late = tt
refused l h (contents.Reserved bytes) c tail n none holds late = tt

-- what was made of a content after the list
pub record IsMade (l : List Role) (h : Head) (content : Content) (p : Parts) (c : said.Content) (tail : List ℕ) : Type 0 where
  pub last : FramesLast (codecs l)
  pub parts : HasParts (frame_length l) content p
  pub holds : Holds content c tail
  pub obu_type : type_in content ≡ obu_type_of h.kind
  pub trims : HasTrims content h.trim
  pub plain : is_copy h ≡ false

-- the fault is that of the OBU
pub same_fault : (l : List Role) (h : Head) (content : Content) (p : Parts) (c : said.Content) (tail : List ℕ) → IsMade l h content p c tail → fault_after l (role_with content p) ≡ fault_after l (role_in h c tail)
same_fault l h content p c tail is = elim (lasts l is.last) [
  | inl none ↦ bare l h content p (frame_length l) c tail none is.parts is.holds is.obu_type is.trims ∙ ap (fault_after l) (plain_in h content c tail is.plain is.obu_type is.holds)
  | inr some ↦ ap (fault_after l) (plain_made h content p (frame_length l) c tail (made (frame_length l) content some) is.parts is.holds is.obu_type is.trims ∙ plain_in h content c tail is.plain is.obu_type is.holds)
]

-- and where there is none, so is the role
pub same_role : (l : List Role) (h : Head) (content : Content) (p : Parts) (c : said.Content) (tail : List ℕ) → IsMade l h content p c tail → fault_after l (role_in h c tail) ≡ None → role_with content p ≡ role_in h c tail
same_role l h content p c tail is late = plain_made h content p (frame_length l) c tail all is.parts is.holds is.obu_type is.trims ∙ plain
  where
    plain : plain_role h c tail ≡ role_in h c tail
    plain = plain_in h content c tail is.plain is.obu_type is.holds

    all : HasMade (frame_length l) content
    all = elim (lasts l is.last) [
      | inl none ↦ refused l h content c tail (frame_length l) none is.holds (ap (fault_after l) plain ∙ late)
      | inr some ↦ made (frame_length l) content some
    ]
