-- The number of the unit of an OBU lies between those that are open before and after it.
use Rattle.std.proofs.Common.{◌≡◌, ℕ, List, [], ◌∷◌, ◌++◌, refl, sym, ap, ◌∙◌}
use Rattle.std.specs.Prelude.{Some, None}
use Rattle.spec_rules.specs.Role.{Role, Ignored, SequenceHeader, CodecConfig, AudioElement, MixPresentation, Delimiter, ParameterBlock, AudioFrame}
use Rattle.spec_rules.specs.Units.{open_unit, unit_after}
use Rattle.spec_rules.specs.Rules.{fault_after}
use Rattle.spec_rules.specs.Admitted.{type_of_role}
use Rattle.spec_rules.proofs.NoFault.{delimiter_none}
use Rattle.spec_rules.proofs.OpenUnits.{open_unit-delimiter}
use Rattle.spec_rules.proofs.Placing.{unit_after-other, unit_after-delimiter}
use Rattle.iamf_admission.specs.Numbers.{number_between, number_after}

pub number_is : (l : List Role) (o : Role) (before after : ℕ) → fault_after l o ≡ None → before ≡ open_unit l → after ≡ open_unit (l ++ o ∷ []) → number_between (type_of_role o) before after ≡ number_after l o
number_is l Delimiter before after none first last = ap Some (last ∙ delimited)
  where
    delimited : open_unit (l ++ Delimiter ∷ []) ≡ unit_after l Delimiter
    delimited = open_unit-delimiter l (delimiter_none l none).0 ∙ sym (unit_after-delimiter l (delimiter_none l none).0)
number_is l (ParameterBlock b) before after none first last = ap Some (first ∙ sym (unit_after-other l (ParameterBlock b) refl))
number_is l (AudioFrame f) before after none first last = ap Some (first ∙ sym (unit_after-other l (AudioFrame f) refl))
number_is l Ignored before after none first last = refl
number_is l (SequenceHeader p) before after none first last = refl
number_is l (CodecConfig c) before after none first last = refl
number_is l (AudioElement e) before after none first last = refl
number_is l (MixPresentation m) before after none first last = refl
