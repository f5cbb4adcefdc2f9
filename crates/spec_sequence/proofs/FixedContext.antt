-- What the payloads of descriptors are read by stays as it is once there is a codec config, and none is read before that needs one.
use Rattle.std.proofs.Common.{◌≡◌, ℕ, true, false, ◌⊎◌, inl, inr, List, [], ◌∷◌, ◌++◌, refl, sym, ap, subst, ◌∙◌, map}
use Rattle.std.specs.Prelude.{None}
use Rattle.spec_obu.specs.Header.{Head}
use Rattle.spec_descriptors.specs.AudioElement.{AudioElementFields}
use Rattle.spec_obu.specs.declared.obu_type.ObuType.TheVariants.{AudioElement}
use Rattle.spec_obu.specs.Kinds.{obu_type_of}
use Rattle.spec_values.specs.Content.{Content, Element, by_length, PayloadOf}
use Rattle.spec_obu.specs.Kinds.{is_descriptor}
use Rattle.spec_rules.specs.declared.codec_role.CodecRole.{CodecRole}
use Rattle.spec_rules.specs.Role.{Role}
use Rattle.spec_sequence.specs.ValueRole.{element_role, role, role_in}
use Rattle.spec_rules.specs.Role as role
use Rattle.spec_rules.specs.Descriptors.{codec_of, codecs, first_length, frame_length, context_of}
use Rattle.spec_rules.specs.Rules.{fault_after, unknown}
use Rattle.spec_sequence.specs.Reading.{Entry, roles, context_after, IsAdmissible, IsPlain, IsKnown, Known, IsNoElement, LacksElements, Keeps}
use Rattle.spec_sequence.proofs.Roles.{roles-append, roles_more}
use Rattle.spec_rules.proofs.DescriptorLists.{codecs-append, codecs-push}
use Rattle.spec_values.proofs.Contents.{descriptor_elsewhere, element_content}
use Rattle.spec_rules.proofs.NoFault.{element_none}

-- what an OBU's payload says where it stands, by the frame length there
pub payload_now : (past : List Entry) (obu_type : ℕ) (c : Content) (tail payload : List ℕ) → is_descriptor (obu_type_of obu_type) ≡ true → PayloadOf (context_after past) obu_type c tail payload
    → PayloadOf (by_length (frame_length (roles past))) obu_type c tail payload
unfolding context_of
payload_now past obu_type c tail payload e h = record {
  says = descriptor_elsewhere (context_of (roles past)) (by_length (frame_length (roles past))) obu_type (obu_type_of obu_type) c tail payload e (λ _. refl) h.says;
  bytes = h.bytes;
  tail_is = h.tail_is;
}

known_other : (n m : ℕ) (past : List Entry) → LacksElements past → Known n past → Known m past
known_other n m [] lacks h = tt
known_other n m (e ∷ es) lacks h = (
  λ plain descriptor.
      let p = h.0 plain descriptor in
      record {
        says = descriptor_elsewhere (by_length n) (by_length m) e.value.head.kind (obu_type_of e.value.head.kind) e.value.content e.value.tail e.payload descriptor (λ element. absurd (lacks.0 plain element)) p.says;
        bytes = p.bytes;
        tail_is = p.tail_is;
      },
  known_other n m es lacks.1 h.1,
)

known-push : (n : ℕ) (past : List Entry) (e : Entry) → Known n past → IsKnown n e → Known n (past ++ e ∷ [])
known-push n [] e h k = (k, tt)
known-push n (x ∷ xs) e h k = (h.0, known-push n xs e h.1 k)

lacks-push : (past : List Entry) (e : Entry) → LacksElements past → IsNoElement e → LacksElements (past ++ e ∷ [])
lacks-push [] e h k = (k, tt)
lacks-push (x ∷ xs) e h k = (h.0, lacks-push xs e h.1 k)

-- ---- the frame length after one more

same_first : (xs ys : List CodecRole) → (xs ≡ [] → ⊥) → first_length (xs ++ ys) ≡ first_length xs
same_first [] ys lacks = absurd (lacks refl)
same_first (x ∷ xs) ys lacks = refl

none_or_some : (xs : List CodecRole) → (xs ≡ []) ⊎ (xs ≡ [] → ⊥)
none_or_some [] = inl refl
none_or_some (x ∷ xs) = inr (λ e. cc)

pub length_stays : (past es : List Entry) → (codecs (roles past) ≡ [] → ⊥) → frame_length (roles (past ++ es)) ≡ frame_length (roles past)
unfolding frame_length
length_stays past es some = ap (λ (l : List Role). first_length (codecs l)) (roles-append past es) ∙ ap first_length (codecs-append (roles past) (roles es)) ∙ same_first (codecs (roles past)) (codecs (roles es)) some

left_none : (xs ys : List CodecRole) → xs ++ ys ≡ [] → xs ≡ []
left_none [] ys e = refl
left_none (x ∷ xs) ys e = absurd cc

none_before : (past : List Entry) (e : Entry) → codecs (roles (past ++ e ∷ [])) ≡ [] → codecs (roles past) ≡ []
none_before past e h = left_none (codecs (roles past)) (codec_of (role e.value)) (sym (ap codecs (roles_more past e) ∙ codecs-push (roles past) (role e.value)) ∙ h)

-- ---- an element that is admitted has a codec config before it

unknown_codec : (cs : List CodecRole) (id : ℕ) → cs ≡ [] → unknown (map (λ c. c.id) cs) (id ∷ []) ≡ None → ⊥
unknown_codec [] id none h = cc
unknown_codec (c ∷ cs) id none h = cc

role_of_element : (h : Head) (c : Content) (tail : List ℕ) (x : AudioElementFields) → h.redundant ≡ false → c ≡ Element x → role_in h c tail ≡ role.AudioElement (element_role x)
role_of_element h c tail x plain is = rw (plain, is) refl

plain_element : (past : List Entry) (e : Entry) → IsPlain e → obu_type_of e.value.head.kind ≡ AudioElement → PayloadOf (context_after past) e.value.head.kind e.value.content e.value.tail e.payload → IsAdmissible past e
    → codecs (roles past) ≡ [] → ⊥
plain_element past e plain is h a none =
    let c = element_content (context_after past) e.value.head.kind (obu_type_of e.value.head.kind) e.value.content e.value.tail e.payload is h.says in
    let r : role e.value ≡ role.AudioElement (element_role c.0) = role_of_element e.value.head e.value.content e.value.tail c.0 plain c.1 in
    unknown_codec (codecs (roles past)) (element_role c.0).codec none (element_none (roles past) (element_role c.0) (sym (ap (fault_after (roles past)) r) ∙ a.late)).2

-- ---- one more

pub keeps-nil : Keeps []
keeps-nil = record { known = tt; first = λ _. tt }

pub keeps-push : (past : List Entry) (e : Entry) → Keeps past → PayloadOf (context_after past) e.value.head.kind e.value.content e.value.tail e.payload → IsAdmissible past e → Keeps (past ++ e ∷ [])
keeps-push past e k h a =
    let now = frame_length (roles past) in
    let then = frame_length (roles (past ++ e ∷ [])) in
    let is : IsKnown now e = λ plain descriptor. payload_now past e.value.head.kind e.value.content e.value.tail e.payload descriptor h in
    elim (none_or_some (codecs (roles past))) [
      | inl none ↦
          let lacks : LacksElements (past ++ e ∷ []) = lacks-push past e (k.first none) (λ plain element. plain_element past e plain element h a none) in
          record { known = known_other now then (past ++ e ∷ []) lacks (known-push now past e k.known is); first = λ _. lacks }
      | inr some ↦
          record {
            known = subst (λ (n : ℕ). Known n (past ++ e ∷ [])) (sym (length_stays past (e ∷ []) some)) (known-push now past e k.known is);
            first = λ none. absurd (some (none_before past e none));
          }
    ]
