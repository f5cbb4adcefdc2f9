-- After a data OBU comes no parameter definition.
use Rattle.std.proofs.Common.{◌≡◌, true, List, [], ◌∷◌, ◌++◌, refl, sym, ◌∙◌, true≢false, arith}
use Rattle.std.specs.List.{list_any, flat_map}
use Rattle.std.proofs.lemmas.Bool.{or_left}
use Rattle.std.proofs.lemmas.List.Folds.{list_any-append}
use Rattle.spec_rules.specs.Role.{Role, Ignored, SequenceHeader, CodecConfig, AudioElement, MixPresentation, Delimiter, ParameterBlock, AudioFrame}
use Rattle.spec_rules.specs.Descriptors.{definitions_of}
use Rattle.spec_rules.specs.Units.{is_data}
use Rattle.spec_rules.specs.Admitted.{HasNoFault, AdmittedAfter}
use Rattle.spec_rules.proofs.Ranks.{no_data-order}
use Rattle.spec_rules.proofs.NoFault.{element_before, mix_before}

defines_none : (l : List Role) (o : Role) → list_any is_data l ≡ true → HasNoFault l o → definitions_of o ≡ []
defines_none l (AudioElement e) begun h = absurd (true≢false (sym begun ∙ no_data-order l 3 (omega arith) (element_before l h.early)))
defines_none l (MixPresentation m) begun h = absurd (true≢false (sym begun ∙ no_data-order l 4 (omega arith) (mix_before l h.early)))
defines_none l Ignored begun h = refl
defines_none l (SequenceHeader p) begun h = refl
defines_none l (CodecConfig c) begun h = refl
defines_none l Delimiter begun h = refl
defines_none l (ParameterBlock b) begun h = refl
defines_none l (AudioFrame f) begun h = refl

pub still_begun : (l : List Role) (o : Role) → list_any is_data l ≡ true → list_any is_data (l ++ o ∷ []) ≡ true
still_begun l o begun = list_any-append is_data l (o ∷ []) ∙ or_left (list_any is_data l) (list_any is_data (o ∷ [])) begun

pub none_defined : (l os : List Role) → list_any is_data l ≡ true → AdmittedAfter l os → flat_map definitions_of os ≡ []
none_defined l [] begun h = refl
none_defined l (o ∷ os) begun h =
    let first : definitions_of o ≡ [] = defines_none l o begun h.0 in
    let others : flat_map definitions_of os ≡ [] = none_defined (l ++ o ∷ []) os (still_begun l o begun) h.1 in
    rw (first, others) refl
