-- What holds of each part that a payload says holds of each such part of a sequence.
use Rattle.std.proofs.Common.{ℕ, true, false, if◌then◌else◌, List, [], ◌∷◌, ◌++◌, subst}
use Rattle.std.specs.List.{flat_map}
use Rattle.spec_syntax.specs.Payload.{FieldValue}
use Rattle.spec_syntax.proofs.Fields.{Has}
use Rattle.spec_obu.specs.declared.obu_type.ObuType.{ObuType}
use Rattle.spec_obu.specs.declared.obu_type.ObuType.TheVariants as obu_type
use Rattle.spec_descriptors.specs.CodecConfig.{CodecConfigFields, codec_config}
use Rattle.spec_descriptors.specs.AudioElement.{AudioElementFields, audio_element}
use Rattle.spec_descriptors.proofs.OnEach.{Each, each_both}
use Rattle.spec_descriptors.proofs.CodecNumbers.{HasNumbers, config_numbers}
use Rattle.spec_values.specs.Content.{Content, Header, Codec, Element, Mix, Block, Frame, Nothing, Context, Says}
use Rattle.spec_values.specs.Value.{ObuValue}
use Rattle.spec_sequence.specs.Parts.{codec_in, element_in, of_plain, codec_configs, audio_elements}
use Rattle.spec_sequence.specs.Reading.{Entry, values_of, AdmittedAfter, Reads}

-- P of each part of a payload that is read
abbrev OfPayloads : {X : Type 0} → (Content → List X) → (X → Type 0) → Type 0
OfPayloads part P = (context : Context) (n : ℕ) (k : ObuType) (c : Content) (tail payload : List ℕ) → Says context n k c tail payload → Each P (part c)

of_obu : {X : Type 0} (part : Content → List X) (P : X → Type 0) (o : ObuValue) → Each P (part o.content) → Each P (of_plain part o)
of_obu part P o all = elim o.head.redundant as (λ b. Each P (if b then [] else part o.content)) [ true ↦ tt | false ↦ all ]

of_entries : {X : Type 0} (part : Content → List X) (P : X → Type 0) → OfPayloads part P
    → (past : List Entry) (bytes : List ℕ) (entries : List Entry) → AdmittedAfter past bytes entries → Each P (flat_map (of_plain part) (values_of entries))
of_entries part P says past bytes [] admitted = tt
of_entries part P says past bytes (e ∷ es) (piece, rest, parts, spells, passes, more) =
    each_both P (of_plain part e.value) (flat_map (of_plain part) (values_of es))
    (of_obu part P e.value (says _ _ _ e.value.content e.value.tail e.payload spells.payload_is.says))
    (of_entries part P says (past ++ e ∷ []) rest es more)

of_sequence : {X : Type 0} (part : Content → List X) (P : X → Type 0) → OfPayloads part P → (bytes : List ℕ) (s : List ObuValue) → Reads bytes s → Each P (flat_map (of_plain part) s)
of_sequence part P says bytes s reads = subst (λ (v : List ObuValue). Each P (flat_map (of_plain part) v)) reads.values_are (of_entries part P says [] bytes reads.entries reads.admitted)

-- ---- codec configs

codec_says : (P : CodecConfigFields → Type 0) → ((xs : List FieldValue) (c : CodecConfigFields) → Has codec_config xs c → P c) → OfPayloads codec_in P
codec_says P holds context n obu_type.CodecConfig (Codec c) tail payload s = (holds _ c (record { before = []; bits = s.spelling; stands = s.stands }), tt)
codec_says P holds context n k (Codec c) tail payload s = absurd s
codec_says P holds context n k (Header h) tail payload s = tt
codec_says P holds context n k (Element e) tail payload s = tt
codec_says P holds context n k (Mix m) tail payload s = tt
codec_says P holds context n k (Block b) tail payload s = tt
codec_says P holds context n k (Frame f) tail payload s = tt
codec_says P holds context n k Nothing tail payload s = tt

pub sequence_numbers : (bytes : List ℕ) (s : List ObuValue) → Reads bytes s → Each HasNumbers (codec_configs s)
unfolding codec_configs
sequence_numbers bytes s reads = of_sequence codec_in HasNumbers (codec_says HasNumbers config_numbers) bytes s reads

-- ---- audio elements

element_says : (P : AudioElementFields → Type 0) → ((frame_length : ℕ) (xs : List FieldValue) (e : AudioElementFields) → Has (audio_element frame_length) xs e → P e) → OfPayloads element_in P
element_says P holds context n obu_type.AudioElement (Element e) tail payload s = (holds context.frame_length _ e (record { before = []; bits = s.spelling; stands = s.stands }), tt)
element_says P holds context n k (Element e) tail payload s = absurd s
element_says P holds context n k (Header h) tail payload s = tt
element_says P holds context n k (Codec c) tail payload s = tt
element_says P holds context n k (Mix m) tail payload s = tt
element_says P holds context n k (Block b) tail payload s = tt
element_says P holds context n k (Frame f) tail payload s = tt
element_says P holds context n k Nothing tail payload s = tt

pub each_element : (P : AudioElementFields → Type 0) → ((frame_length : ℕ) (xs : List FieldValue) (e : AudioElementFields) → Has (audio_element frame_length) xs e → P e)
    → (bytes : List ℕ) (s : List ObuValue) → Reads bytes s → Each P (audio_elements s)
unfolding audio_elements
each_element P holds bytes s reads = of_sequence element_in P (element_says P holds) bytes s reads
