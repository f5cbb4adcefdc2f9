-- What one more OBU of a sequence adds to its units.
use Rattle.std.proofs.Common.{◌≡◌, ℕ, ◌+◌, Bool, true, false, cond, List, [], ◌∷◌, ◌++◌, length, refl, sym, ap, ◌∙◌, inl, inr, length-append, arith}
use Rattle.spec_obu.specs.Kinds.{obu_type_of}
use Rattle.spec_rules.specs.Role.{Role, Ignored, SequenceHeader, CodecConfig, AudioElement, MixPresentation, Delimiter, ParameterBlock, AudioFrame}
use Rattle.spec_rules.specs.Units.{is_data, unit_after, unit_count}
use Rattle.spec_rules.specs.Admitted.{type_of_role, HasNoFault}
use Rattle.spec_sequence.specs.Reading.{context_after}
use Rattle.spec_boxes.specs.ObuLists.{delimits}
use Rattle.spec_bodies.specs.Spelled.{Spelled, role_of, entries_of, roles_of}
use Rattle.spec_bodies.specs.SequenceBody.{units, descriptors}
use Rattle.spec_bodies.proofs.Alike.{counts}
use Rattle.spec_bodies.proofs.SpelledRoles.{describes, carries, descriptor_is, data_is, typed_role}
use Rattle.spec_rules.proofs.Lawful.{lawful}
use Rattle.spec_bodies.proofs.Rebuilt.{next_unit}
use Rattle.spec_bodies.proofs.OneMore.{GrowsLast, units-quiet, descriptors-same}
use Rattle.spec_bodies.proofs.Rebuilding.{Rebuilds, IsSpelled, Carries, carries_of, units_more, delimiter_here, delimiter_units, same_units, new_units}
use Rattle.spec_bodies.proofs.BodyLaws.{unit_count_is}

-- Nothing; a unit of nothing, which a delimiter begins; a unit that it begins; or itself to the last unit.
pub data Adds (os : List Spelled) (o : Spelled) : Type 0 where
  Quiet : is_data (role_of o) ≡ false → units (os ++ o ∷ []) ≡ units os → Adds os o
  Marks : is_data (role_of o) ≡ true → descriptors (os ++ o ∷ []) ≡ descriptors os → delimits (obu_type_of o.value.head.kind) ≡ true → unit_after (roles_of os) (role_of o) ≡ length (units os) → units (os ++ o ∷ []) ≡ units os ++ [] ∷ [] → Adds os o
  Begins : is_data (role_of o) ≡ true → descriptors (os ++ o ∷ []) ≡ descriptors os → delimits (obu_type_of o.value.head.kind) ≡ false → unit_after (roles_of os) (role_of o) ≡ length (units os) → units (os ++ o ∷ []) ≡ units os ++ o.bytes ∷ [] → Adds os o
  Grows : is_data (role_of o) ≡ true → descriptors (os ++ o ∷ []) ≡ descriptors os → delimits (obu_type_of o.value.head.kind) ≡ false → (g : GrowsLast os o) → unit_after (roles_of os) (role_of o) ≡ length g.before → Adds os o

quietly : (os : List Spelled) (o : Spelled) → IsSpelled os o → is_data (role_of o) ≡ false → carries (role_of o) ≡ false → Adds os o
quietly os o s quiet no_carrier = Quiet quiet (units-quiet os o (data_is (context_after (entries_of os)) o s ∙ no_carrier)
    (units_more os o ∙ ap (λ b. cond b (unit_after (roles_of os) (role_of o) + 1) (unit_count (roles_of os))) quiet))

-- the delimiter's type, by the role
delimits_is : (os : List Spelled) (o : Spelled) → IsSpelled os o → is_data (role_of o) ≡ true → delimits (obu_type_of o.value.head.kind) ≡ delimits (type_of_role (role_of o))
delimits_is os o s some = ap delimits (sym (typed_role (context_after (entries_of os)) o s some))

grows_at : (os : List Spelled) (o : Spelled) (g : GrowsLast os o) (u : ℕ) → u + 1 ≡ unit_count (roles_of os) → u ≡ length g.before
grows_at os o g u here = omega (arith, here, unit_count_is os, ap length g.was, length-append g.before (g.last ∷ []))

carried : (os ps : List Spelled) (o : Spelled) → Carries os o → delimits (type_of_role (role_of o)) ≡ false → Rebuilds os ps → Adds os o
carried os ps o c other r = elim (next_unit (roles_of os) (role_of o) (lawful (roles_of os) r.law) c.counted) [
  | inl here ↦ let g = (same_units os o c here).1 in Grows c.some (descriptors-same os o c.no_descriptor) (delimits_is os o c.spelled c.some ∙ other) g (grows_at os o g (unit_after (roles_of os) (role_of o)) here)
  | inr next ↦ Begins c.some (descriptors-same os o c.no_descriptor) (delimits_is os o c.spelled c.some ∙ other) (next ∙ sym (unit_count_is os)) (new_units os ps o c next r).1
]

pub adds : (os ps : List Spelled) (o : Spelled) (r : Role) → role_of o ≡ r → IsSpelled os o → HasNoFault (roles_of os) (role_of o) → Rebuilds os ps → Adds os o
adds os ps o Delimiter is s none b =
    Marks (ap is_data is) (descriptors-same os o (descriptor_is (context_after (entries_of os)) o s ∙ ap describes is)) (delimits_is os o s (ap is_data is) ∙ ap (λ (x : Role). delimits (type_of_role x)) is) (delimiter_here os ps o is none b ∙ sym (unit_count_is os)) (delimiter_units os ps o is s none b).1
adds os ps o (ParameterBlock x) is s none b = carried os ps o (carries_of os o (ap is_data is) (ap counts is) (ap carries is) (ap describes is) s none) (ap (λ (r : Role). delimits (type_of_role r)) is) b
adds os ps o (AudioFrame x) is s none b = carried os ps o (carries_of os o (ap is_data is) (ap counts is) (ap carries is) (ap describes is) s none) (ap (λ (r : Role). delimits (type_of_role r)) is) b
adds os ps o r is s none b = quietly os o s (ap is_data is) (ap carries is)
