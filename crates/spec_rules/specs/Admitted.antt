-- Lists of roles that are admitted one by one (IAMF 1.0.0, "IA Sequence Structure").
use Rattle.std.specs.Prelude.{◌≡◌, List, [], ◌∷◌, ◌++◌, None}
use Rattle.spec_obu.specs.declared.obu_type.ObuType.{ObuType}
use Rattle.spec_obu.specs.declared.obu_type.ObuType.TheVariants as obu_type
use Rattle.spec_rules.specs.Role.{Role, Ignored, SequenceHeader, CodecConfig, AudioElement, MixPresentation, Delimiter, ParameterBlock, AudioFrame}
use Rattle.spec_rules.specs.Rules.{fault_before, fault_after}

abbrev pub type_of_role : Role → ObuType
type_of_role Ignored = obu_type.Reserved
type_of_role (SequenceHeader profile) = obu_type.SequenceHeader
type_of_role (CodecConfig c) = obu_type.CodecConfig
type_of_role (AudioElement e) = obu_type.AudioElement
type_of_role (MixPresentation m) = obu_type.MixPresentation
type_of_role Delimiter = obu_type.TemporalDelimiter
type_of_role (ParameterBlock b) = obu_type.ParameterBlock
type_of_role (AudioFrame f) = obu_type.AudioFrame

-- the OBU has no fault after the list
pub record HasNoFault (l : List Role) (o : Role) : Type 0 where
  pub early : fault_before l (type_of_role o) ≡ None
  pub late : fault_after l o ≡ None

-- each OBU of a list, which stands after l, has no fault after those before it
abbrev pub AdmittedAfter : List Role → List Role → Type 0
AdmittedAfter l [] = Unit {0}
AdmittedAfter l (o ∷ os) = HasNoFault l o × AdmittedAfter (l ++ o ∷ []) os

unfoldable pub IsAdmitted : List Role → Type 0
IsAdmitted l = AdmittedAfter [] l
