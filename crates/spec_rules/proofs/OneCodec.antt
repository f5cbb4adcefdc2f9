-- A sequence has one codec config.
use Rattle.std.proofs.Common.{◌≡◌, Bool, true, false, ◌||◌, List, [], ◌∷◌, ◌++◌, refl}
use Rattle.std.specs.Prelude.{None}
use Rattle.spec_values.specs.declared.fault.Fault.TheVariants as fault
use Rattle.spec_rules.specs.declared.codec_role.CodecRole.{CodecRole}
use Rattle.spec_rules.specs.Role.{Role, CodecConfig}
use Rattle.spec_rules.specs.Descriptors.{profiles, codecs, elements, mixes}
use Rattle.spec_rules.specs.Units.{is_none_of}
use Rattle.spec_rules.specs.Rules.{when, lacks_descriptors, has_short_unit, end_fault}
use Rattle.spec_rules.specs.Admitted.{HasNoFault, IsAdmitted}
use Rattle.spec_rules.proofs.NoFault.{codec_none}
use Rattle.spec_rules.proofs.DescriptorLists.{codecs-push, codecs-push_none}
use Rattle.spec_rules.proofs.Lawful.{start_none, lawful, by_all}

abbrev IsAtMostOne : List CodecRole → Type 0
IsAtMostOne [] = Unit {0}
IsAtMostOne (c ∷ []) = Unit {0}
IsAtMostOne (c ∷ d ∷ cs) = ⊥

few_more : (l : List Role) (o : Role) → IsAtMostOne (codecs l) → HasNoFault l o → IsAtMostOne (codecs (l ++ o ∷ []))
few_more l (CodecConfig c) few none = rw (codecs-push l (CodecConfig c), codec_none l c none.late) tt
few_more l o few none = rw (codecs-push_none l o refl) few

few_none : IsAtMostOne (codecs [])
unfolding codecs
few_none = tt

few_codecs : (l : List Role) → IsAdmitted l → IsAtMostOne (codecs l)
few_codecs l h = by_all (λ l. IsAtMostOne (codecs l)) few_none few_more l h

lacks_none : (l : List Role) → IsAdmitted l → end_fault l ≡ None → lacks_descriptors l ≡ false
unfolding end_fault
lacks_none l admitted h = (start_none l (when (has_short_unit l) fault.UnitShort ∷ []) (lawful l admitted).balanced h).0

second_of : (a b c d : Bool) → (a || b || c || d) ≡ false → b ≡ false
second_of true b c d e = absurd cc
second_of false true c d e = absurd cc
second_of false false c d e = refl

some_codec : (l : List Role) → lacks_descriptors l ≡ false → is_none_of (codecs l) ≡ false
unfolding lacks_descriptors
some_codec l h = second_of (is_none_of (profiles l)) (is_none_of (codecs l)) (is_none_of (elements l)) (is_none_of (mixes l)) h

just_one : (cs : List CodecRole) → IsAtMostOne cs → is_none_of cs ≡ false → (c : CodecRole) × (cs ≡ c ∷ [])
just_one [] few some = absurd cc
just_one (c ∷ []) few some = (c, refl)
just_one (c ∷ d ∷ cs) few some = absurd few

pub one_codec : (l : List Role) → IsAdmitted l → end_fault l ≡ None → (c : CodecRole) × (codecs l ≡ c ∷ [])
one_codec l admitted whole = just_one (codecs l) (few_codecs l admitted) (some_codec l (lacks_none l admitted whole))
