-- What a payload says: by which part of the context it is read, and the content that its kind has.
use Rattle.std.proofs.Common.{◌≡◌, ℕ, true, List, refl, sym, ap, subst, ◌∙◌, true≢false}
use Rattle.spec_descriptors.specs.AudioElement.{AudioElementFields}
use Rattle.spec_blocks.specs.Shape.{Definition}
use Rattle.spec_blocks.specs.ParameterBlock.{BlockFields}
use Rattle.spec_obu.specs.declared.obu_type.ObuType.{ObuType}
use Rattle.spec_obu.specs.declared.obu_type.ObuType.TheVariants.{SequenceHeader, CodecConfig, AudioElement, MixPresentation, ParameterBlock, TemporalDelimiter, AudioFrame, Reserved}
use Rattle.spec_obu.specs.Kinds.{is_descriptor}
use Rattle.spec_values.specs.Content.{Content, Element, Block, Context, by_length, Says}

abbrev by_definitions : List Definition → Context
by_definitions ds = record { frame_length = 0; definitions = ds }

-- ---- another context

-- elements are read by the frame length, parameter blocks by the definitions, and others by neither
pub says_elsewhere : (a b : Context) (obu_type : ℕ) (k : ObuType) (c : Content) (tail payload : List ℕ) → (k ≡ AudioElement → a.frame_length ≡ b.frame_length) → (k ≡ ParameterBlock → a.definitions ≡ b.definitions)
    → Says a obu_type k c tail payload → Says b obu_type k c tail payload
says_elsewhere a b obu_type SequenceHeader c tail payload lengths defined h = h
says_elsewhere a b obu_type CodecConfig c tail payload lengths defined h = h
says_elsewhere a b obu_type AudioElement c tail payload lengths defined h = subst (λ (n : ℕ). Says (by_length n) obu_type AudioElement c tail payload) (lengths refl) h
says_elsewhere a b obu_type MixPresentation c tail payload lengths defined h = h
says_elsewhere a b obu_type ParameterBlock c tail payload lengths defined h = subst (λ (ds : List Definition). Says (by_definitions ds) obu_type ParameterBlock c tail payload) (defined refl) h
says_elsewhere a b obu_type TemporalDelimiter c tail payload lengths defined h = h
says_elsewhere a b obu_type AudioFrame c tail payload lengths defined h = h
says_elsewhere a b obu_type Reserved c tail payload lengths defined h = h

pub descriptor_elsewhere : (a b : Context) (obu_type : ℕ) (k : ObuType) (c : Content) (tail payload : List ℕ) → is_descriptor k ≡ true → (k ≡ AudioElement → a.frame_length ≡ b.frame_length)
    → Says a obu_type k c tail payload → Says b obu_type k c tail payload
descriptor_elsewhere a b obu_type k c tail payload descriptor lengths h =
    says_elsewhere a b obu_type k c tail payload lengths (λ block. absurd (true≢false (sym descriptor ∙ ap is_descriptor block))) h

-- ---- the content

pub element_content : (context : Context) (obu_type : ℕ) (k : ObuType) (c : Content) (tail payload : List ℕ) → k ≡ AudioElement → Says context obu_type k c tail payload → (x : AudioElementFields) × (c ≡ Element x)
element_content context obu_type k c tail payload is h = go c (subst (λ (j : ObuType). Says context obu_type j c tail payload) is h)
  where
    go : (d : Content) → Says context obu_type AudioElement d tail payload → (x : AudioElementFields) × (d ≡ Element x)
    go (Element x) says = (x, refl)
    go d says = absurd says

pub block_content : (context : Context) (obu_type : ℕ) (k : ObuType) (c : Content) (tail payload : List ℕ) → k ≡ ParameterBlock → Says context obu_type k c tail payload → (x : BlockFields) × (c ≡ Block x)
block_content context obu_type k c tail payload is h = go c (subst (λ (j : ObuType). Says context obu_type j c tail payload) is h)
  where
    go : (d : Content) → Says context obu_type ParameterBlock d tail payload → (x : BlockFields) × (d ≡ Block x)
    go (Block x) says = (x, refl)
    go d says = absurd says
