-- What is read of the payload of an OBU, by its type: one syntax for each.
use Rattle.std.proofs.Common.{◌≡◌, ℕ, List, [], ◌++◌, refl, sym, ap, ◌∙◌}
use Rattle.spec_bits.specs.declared.FieldFault.{FieldFault}
use Rattle.spec_bits.specs.Bits.{Bits, AreBytes, all_bits}
use Rattle.spec_syntax.specs.Syntax.{Syntax, End}
use Rattle.spec_syntax.specs.Payload.{FieldValue, Payload, Faults}
use Rattle.spec_syntax.specs.Laws.{IsSyntaxOf}
use Rattle.spec_syntax.proofs.Fields.{Has, end_step, syntax_of}
use Rattle.spec_descriptors.specs.declared.fault.DescriptorFault.{DescriptorFault}
use Rattle.spec_descriptors.specs.declared.fault.DescriptorFault.TheVariants as descriptor
use Rattle.spec_descriptors.specs.declared.fault.MixFault.{MixFault}
use Rattle.spec_descriptors.specs.declared.fault.MixFault.TheVariants as mix
use Rattle.spec_descriptors.specs.SequenceHeader.{SequenceHeaderFields, sequence_header}
use Rattle.spec_descriptors.specs.CodecConfig.{CodecConfigFields, codec_config}
use Rattle.spec_descriptors.specs.AudioElement.{AudioElementFields, audio_element}
use Rattle.spec_descriptors.specs.MixPresentation.{MixPresentationFields, mix_presentation}
use Rattle.spec_descriptors.specs.DescriptorFields.{sequence_header_fields, codec_config_fields}
use Rattle.spec_descriptors.specs.ElementFields.{audio_element_fields}
use Rattle.spec_descriptors.specs.MixFields.{mix_presentation_fields}
use Rattle.spec_descriptors.proofs.SequenceHeaderFields.{sequence_header_syntax}
use Rattle.spec_descriptors.proofs.CodecConfigFields.{codec_config_syntax}
use Rattle.spec_descriptors.proofs.ElementIs.{audio_element_syntax}
use Rattle.spec_descriptors.proofs.MixSteps.{mix_presentation_syntax}
use Rattle.spec_blocks.specs.declared.fault.BlockFault.{BlockFault}
use Rattle.spec_blocks.specs.declared.fault.BlockFault.TheVariants as block
use Rattle.spec_blocks.specs.ParameterBlock.{BlockFields, parameter_block}
use Rattle.spec_blocks.specs.AudioFrame.{audio_frame}
use Rattle.spec_blocks.specs.BlockFieldLists.{block_fields, frame_fields}
use Rattle.spec_blocks.proofs.BlockFields.{block_syntax, frame_syntax}
use Rattle.spec_values.specs.declared.fault.Fault.{Fault}
use Rattle.spec_values.specs.declared.fault.Fault.TheVariants as fault
use Rattle.spec_obu.specs.declared.obu_type.ObuType.{ObuType}
use Rattle.spec_obu.specs.declared.obu_type.ObuType.TheVariants.{SequenceHeader, CodecConfig, AudioElement, MixPresentation, ParameterBlock, TemporalDelimiter, AudioFrame, Reserved}
use Rattle.spec_values.specs.Content.{Content, Header, Codec, Element, Mix, Block, Frame, Nothing, Context, Says, SaysNot, fields_of}
use Rattle.spec_values.proofs.WholeBytes.{FillsBytes}
use Rattle.spec_values.proofs.DescriptorBytes.{sequence_header_fills, codec_config_fills, audio_element_fills}
use Rattle.spec_values.proofs.MixBytes.{mix_presentation_fills}
use Rattle.spec_values.proofs.BlockBytes.{parameter_block_fills, audio_frame_fills}
use Rattle.spec_bits.proofs.ByteForms.{same_bytes}

-- a syntax that fills whole bytes, with the content and the fault that its records and its faults stand for
pub record Table : Type 1 where
  pub F : Type 0
  pub A : Type 0
  pub wrap : FieldFault → F
  pub syntax : Syntax F A
  pub fields : A → List FieldValue
  pub laws : IsSyntaxOf wrap syntax fields
  pub fills : FillsBytes 0 syntax
  pub content : A → Content
  pub fault : F → Fault

-- ---- the tables

-- of some payloads nothing is read
abbrev pub nothing : Syntax FieldFault (Unit {0})
nothing = End tt

abbrev pub no_fields : Unit {0} → List FieldValue
no_fields r = []

nothing_is : (xs : List FieldValue) (r : Unit {0}) → Has nothing xs r → xs ≡ no_fields r
nothing_is xs r h = end_step h λ e is. e

pub nothing_syntax : IsSyntaxOf (λ e. e) nothing no_fields
nothing_syntax = syntax_of _ nothing no_fields nothing_is tt

abbrev pub table_of_nothing : Table
table_of_nothing = record {
  F = FieldFault;
  A = Unit {0};
  wrap = λ e. e;
  syntax = nothing;
  fields = no_fields;
  laws = nothing_syntax;
  fills = refl;
  content = λ r. Nothing;
  fault = λ e. fault.Frame e;
}

abbrev pub table : Context → ℕ → ObuType → Table
table context obu_type SequenceHeader = record {
  F = DescriptorFault;
  A = SequenceHeaderFields;
  wrap = λ e. descriptor.Field e;
  syntax = sequence_header;
  fields = sequence_header_fields;
  laws = sequence_header_syntax;
  fills = sequence_header_fills;
  content = λ h. Header h;
  fault = λ d. fault.Descriptor d;
}
table context obu_type CodecConfig = record {
  F = DescriptorFault;
  A = CodecConfigFields;
  wrap = λ e. descriptor.Field e;
  syntax = codec_config;
  fields = codec_config_fields;
  laws = codec_config_syntax;
  fills = codec_config_fills;
  content = λ c. Codec c;
  fault = λ d. fault.Descriptor d;
}
table context obu_type AudioElement = record {
  F = DescriptorFault;
  A = AudioElementFields;
  wrap = λ e. descriptor.Field e;
  syntax = audio_element context.frame_length;
  fields = audio_element_fields;
  laws = audio_element_syntax context.frame_length;
  fills = audio_element_fills context.frame_length;
  content = λ e. Element e;
  fault = λ d. fault.Descriptor d;
}
table context obu_type MixPresentation = record {
  F = MixFault;
  A = MixPresentationFields;
  wrap = λ e. mix.Field e;
  syntax = mix_presentation;
  fields = mix_presentation_fields;
  laws = mix_presentation_syntax;
  fills = mix_presentation_fills;
  content = λ m. Mix m;
  fault = λ m. fault.Mix m;
}
table context obu_type ParameterBlock = record {
  F = BlockFault;
  A = BlockFields;
  wrap = λ e. block.Field e;
  syntax = parameter_block context.definitions;
  fields = block_fields;
  laws = block_syntax context.definitions;
  fills = parameter_block_fills context.definitions;
  content = λ b. Block b;
  fault = λ b. fault.Block b;
}
table context obu_type TemporalDelimiter = table_of_nothing
table context obu_type AudioFrame = record {
  F = FieldFault;
  A = ℕ;
  wrap = λ e. e;
  syntax = audio_frame obu_type;
  fields = frame_fields obu_type;
  laws = frame_syntax obu_type;
  fills = audio_frame_fills obu_type;
  content = λ s. Frame s;
  fault = λ e. fault.Frame e;
}
table context obu_type Reserved = table_of_nothing

-- ---- what a payload says, by the table

pub record SaysBy (t : Table) (obu_type : ℕ) (c : Content) (tail payload : List ℕ) : Type 0 where
  pub value : t.A
  pub is : t.content value ≡ c
  pub lists : fields_of obu_type c ≡ t.fields value
  pub spells : Payload t.syntax (t.fields value) value (all_bits tail) (all_bits payload)

nothing_spelled : (tail payload : List ℕ) → tail ≡ payload → Payload nothing [] tt (all_bits tail) (all_bits payload)
nothing_spelled tail payload e = record { spelling = []; stands = (refl, refl); parts = ap all_bits (sym e) }

nothing_said : (tail payload : List ℕ) → AreBytes tail → AreBytes payload → Payload nothing [] tt (all_bits tail) (all_bits payload) → tail ≡ payload
nothing_said tail payload p q h = sym (same_bytes payload tail q p (h.parts ∙ ap (λ (z : Bits). z ++ all_bits tail) h.stands.1))

pub says_by : (context : Context) (obu_type : ℕ) (k : ObuType) (c : Content) (tail payload : List ℕ) → Says context obu_type k c tail payload → SaysBy (table context obu_type k) obu_type c tail payload
says_by context obu_type SequenceHeader (Header h) tail payload says = record { value = h; is = refl; lists = refl; spells = says }
says_by context obu_type CodecConfig (Codec c) tail payload says = record { value = c; is = refl; lists = refl; spells = says }
says_by context obu_type AudioElement (Element e) tail payload says = record { value = e; is = refl; lists = refl; spells = says }
says_by context obu_type MixPresentation (Mix m) tail payload says = record { value = m; is = refl; lists = refl; spells = says }
says_by context obu_type ParameterBlock (Block b) tail payload says = record { value = b; is = refl; lists = refl; spells = says }
says_by context obu_type TemporalDelimiter Nothing tail payload says = record { value = tt; is = refl; lists = refl; spells = nothing_spelled tail payload says }
says_by context obu_type AudioFrame (Frame s) tail payload says = record { value = s; is = refl; lists = refl; spells = says }
says_by context obu_type Reserved Nothing tail payload says = record { value = tt; is = refl; lists = refl; spells = nothing_spelled tail payload says }
says_by context obu_type k c tail payload says = absurd says

-- and back, of any record of the table
pub by_says : (context : Context) (obu_type : ℕ) (k : ObuType) (tail payload : List ℕ) (r : (table context obu_type k).A) → AreBytes tail → AreBytes payload
    → Payload (table context obu_type k).syntax ((table context obu_type k).fields r) r (all_bits tail) (all_bits payload) → Says context obu_type k ((table context obu_type k).content r) tail payload
by_says context obu_type TemporalDelimiter tail payload r p q h = nothing_said tail payload p q h
by_says context obu_type Reserved tail payload r p q h = nothing_said tail payload p q h
by_says context obu_type _ tail payload r p q h = h

-- ---- and what it does not say

pub record SaysNotBy (t : Table) (f : Fault) (payload : List ℕ) : Type 0 where
  pub value : t.F
  pub is : f ≡ t.fault value
  pub has : Faults t.wrap t.syntax [] value (all_bits payload)

pub says_not_by : (context : Context) (obu_type : ℕ) (k : ObuType) (f : Fault) (payload : List ℕ) → SaysNot context obu_type k f payload → SaysNotBy (table context obu_type k) f payload
says_not_by context obu_type TemporalDelimiter f payload h = absurd h
says_not_by context obu_type Reserved f payload h = absurd h
says_not_by context obu_type _ f payload h = record { value = h.0; is = h.1; has = h.2 }

pub by_says_not : (context : Context) (obu_type : ℕ) (k : ObuType) (payload : List ℕ) (e : (table context obu_type k).F) → Faults (table context obu_type k).wrap (table context obu_type k).syntax [] e (all_bits payload)
    → SaysNot context obu_type k ((table context obu_type k).fault e) payload
by_says_not context obu_type TemporalDelimiter payload e h = h
by_says_not context obu_type Reserved payload e h = h
by_says_not context obu_type _ payload e h = (e, refl, h)
