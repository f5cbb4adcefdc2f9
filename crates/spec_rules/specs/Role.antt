-- What the rules of sequences look at in an OBU: its role.
use Rattle.std.specs.Prelude.{ℕ, List, Option}
use Rattle.spec_obu.specs.declared.trim.Trim.{Trim}
use Rattle.spec_blocks.specs.Shape.{Definition}
use Rattle.spec_rules.specs.declared.codec_role.CodecRole.{CodecRole}

-- `channels` are those of each substream in order, where they are known
pub record ElementRole : Type 0 where
  pub id : ℕ
  pub codec : ℕ
  pub substreams : List ℕ
  pub channels : Option (List ℕ)
  pub definitions : List Definition

-- `elements` are the ids of the elements of all sub-mixes one after the other, and `sub_mixes` is how many these are
pub record MixRole : Type 0 where
  pub id : ℕ
  pub elements : List ℕ
  pub sub_mixes : ℕ
  pub definitions : List Definition

-- `duration` is the block's own, where it has one
pub record BlockRole : Type 0 where
  pub id : ℕ
  pub duration : Option ℕ

-- `bytes` are the codec's; no trim is one of 0 and 0
pub record FrameRole : Type 0 where
  pub substream : ℕ
  pub trim : Trim
  pub bytes : List ℕ

-- Reserved OBUs and redundant copies count for nothing.
pub data Role : Type 0 where
  Ignored : Role
  SequenceHeader : (primary_profile : ℕ) → Role
  CodecConfig : CodecRole → Role
  AudioElement : ElementRole → Role
  MixPresentation : MixRole → Role
  Delimiter : Role
  ParameterBlock : BlockRole → Role
  AudioFrame : FrameRole → Role
