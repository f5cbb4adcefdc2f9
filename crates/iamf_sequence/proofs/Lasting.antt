-- What the payload of an OBU of a sequence says after all of its OBUs.
use Rattle.std.proofs.Common.{◌≡◌, ℕ, zero, suc, Bool, true, false, not, ◌||◌, inl, inr, List, [], ◌∷◌, ◌++◌, fold, refl, sym, ap, subst, ◌∙◌, append-nil, append_assoc}
use Rattle.std.specs.Prelude.{None, Some, is_some, slice_get}
use Rattle.std.specs.List.{list_any, flat_map}
use Rattle.std.proofs.lemmas.Bool.{cases_Bool, or_cases, or_right, and_parts}
use Rattle.std.proofs.lemmas.List.Folds.{list_any-append}
use Rattle.std.proofs.lemmas.Grind.{flat_map-append}
use Rattle.std.proofs.lemmas.Option.{same_Some}
use Rattle.spec_bits.specs.Bits.{AreBytes}
use Rattle.spec_bits.proofs.ByteForms.{AreBytes-parts}
use Rattle.spec_obu.specs.declared.obu_type.ObuType.TheVariants.{AudioElement, ParameterBlock}
use Rattle.spec_obu.specs.Header.{Head, Header, is_copy}
use Rattle.spec_obu.specs.Kinds.{obu_type_of, is_audio_frame, is_data}
use Rattle.spec_blocks.specs.Shape.{Definition, with_definition}
use Rattle.spec_values.specs.declared.fault.Fault.TheVariants as fault
use Rattle.spec_values.specs.Content.{Content, Context, Says, PayloadOf}
use Rattle.spec_values.specs.Value.{Spells}
use Rattle.spec_rules.specs.declared.codec_role.CodecRole.{CodecRole}
use Rattle.spec_rules.specs.Role.{Role}
use Rattle.spec_rules.specs.Descriptors.{codec_of, codecs, definitions_of, definitions, context_of}
use Rattle.spec_rules.specs.Units as units
use Rattle.spec_rules.specs.Admitted as admitted
use Rattle.spec_rules.proofs.DescriptorLists.{codecs-push}
use Rattle.spec_rules.proofs.NoFault.{is_there}
use Rattle.spec_sequence.specs.ValueRole.{role_in, role}
use Rattle.spec_sequence.specs.Reading.{Entry, roles, context_after, is_copied, is_repeated, early_fault, AdmittedAfter, LacksElements, Keeps}
use Rattle.spec_sequence.proofs.FixedContext.{keeps-push, length_stays}
use Rattle.spec_sequence.proofs.Roles.{roles_more, roles-append}
use Rattle.spec_sequence.proofs.RedundantCopies.{early_copy, copied_parts}
use Rattle.spec_values.proofs.Contents.{says_elsewhere, element_content, block_content}
use Rattle.iamf_sequence.proofs.NoDefinition.{none_defined}

-- ---- an element has a codec config before it

last_lacks : (past : List Entry) (e : Entry) → LacksElements (past ++ e ∷ []) → e.value.head.redundant ≡ false → obu_type_of e.value.head.kind ≡ AudioElement → ⊥
last_lacks [] e h = h.0
last_lacks (x ∷ xs) e h = last_lacks xs e h.1

lacks_copied : (past : List Entry) (h : Head) (payload : List ℕ) → LacksElements past → obu_type_of h.kind ≡ AudioElement → is_repeated past h payload ≡ true → ⊥
lacks_copied [] h payload lacks element e = cc
lacks_copied (x ∷ xs) h payload lacks element e = elim (or_cases (is_copied h payload x) (is_repeated xs h payload) e) [
  | inl here ↦
      let parts = copied_parts h payload x here in
      lacks.0 parts.0 (ap obu_type_of parts.1 ∙ element)
  | inr there ↦ lacks_copied xs h payload lacks.1 element there
]

copy_repeats : (past : List Entry) (h : Head) (payload : List ℕ) → is_copy h ≡ true → early_fault past h payload ≡ None → is_repeated past h payload ≡ true
copy_repeats past h payload copy none = is_there (is_repeated past h payload) fault.Redundant (sym (early_copy past h payload copy) ∙ none)

element_copy : (h : Head) → h.redundant ≡ true → obu_type_of h.kind ≡ AudioElement → is_copy h ≡ true
element_copy h redundant element = rw (redundant, element) refl

element_no_codec : (context : Context) (h : Head) (c : Content) (tail payload : List ℕ) → h.redundant ≡ false → obu_type_of h.kind ≡ AudioElement → Says context h.kind (obu_type_of h.kind) c tail payload → codec_of (role_in h c tail) ≡ []
element_no_codec context h c tail payload plain is says = let x = element_content context h.kind (obu_type_of h.kind) c tail payload is says in rw (plain, x.1) refl

has_codec : (past : List Entry) (bytes : List ℕ) (e : Entry) (es : List Entry) → Keeps past → AdmittedAfter past bytes (e ∷ es) → obu_type_of e.value.head.kind ≡ AudioElement → codecs (roles past) ≡ [] → ⊥
has_codec past bytes e es keeps h element none = elim (cases_Bool e.value.head.redundant) [
  | inl redundant ↦ lacks_copied past e.value.head e.payload (keeps.first none) element (copy_repeats past e.value.head e.payload (element_copy e.value.head redundant element) h.4.early)
  | inr plain ↦
      let after = keeps-push past e keeps h.3.payload_is h.4 in
      let still : codecs (roles (past ++ e ∷ [])) ≡ [] =
      ap codecs (roles_more past e) ∙ codecs-push (roles past) (role e.value) ∙ ap (λ (x : List CodecRole). x ++ codec_of (role e.value)) none ∙ element_no_codec (context_after past) e.value.head e.value.content e.value.tail e.payload plain element h.3.payload_is.says in
      last_lacks past e (after.first still) plain element
]

-- ---- the definitions of the whole list

same_definitions : (past es : List Entry) → flat_map definitions_of (roles es) ≡ [] → definitions (roles past) ≡ definitions (roles (past ++ es))
unfolding definitions
same_definitions past es none =
    let all : flat_map definitions_of (roles (past ++ es)) ≡ flat_map definitions_of (roles past) =
    ap (flat_map definitions_of) (roles-append past es) ∙ flat_map-append definitions_of (roles past) (roles es) ∙ ap (λ (x : List Definition). flat_map definitions_of (roles past) ++ x) none ∙ append-nil (flat_map definitions_of (roles past)) in
    ap (fold with_definition []) (sym all)

-- ---- a parameter block is a data OBU

left_of : (a b : Bool) → (not a || not b) ≡ true → b ≡ true → a ≡ false
left_of false b h e = refl
left_of true true h e = absurd cc
left_of true false h e = absurd cc

block_plain : (h : Head) (payload piece : List ℕ) → Header h payload piece → obu_type_of h.kind ≡ ParameterBlock → h.redundant ≡ false
block_plain h payload piece is block =
    let allowed = and_parts (not (is_some h.trim) || is_audio_frame (obu_type_of h.kind)) (not h.redundant || not (is_data (obu_type_of h.kind))) is.allowed in
    left_of h.redundant (is_data (obu_type_of h.kind)) allowed.1 (ap is_data block)

block_role : (context : Context) (h : Head) (c : Content) (tail payload : List ℕ) → h.redundant ≡ false → obu_type_of h.kind ≡ ParameterBlock → Says context h.kind (obu_type_of h.kind) c tail payload
    → (units.is_data (role_in h c tail) ≡ true) × (definitions_of (role_in h c tail) ≡ [])
block_role context h c tail payload plain is says = let x = block_content context h.kind (obu_type_of h.kind) c tail payload is says in (rw (plain, x.1) refl, rw (plain, x.1) refl)

later_none : (past : List Entry) (bytes : List ℕ) (e : Entry) (es : List Entry) → AdmittedAfter past bytes (e ∷ es) → admitted.AdmittedAfter (roles past) (roles (e ∷ es)) → obu_type_of e.value.head.kind ≡ ParameterBlock
    → flat_map definitions_of (roles (e ∷ es)) ≡ []
later_none past bytes e es h passes block =
    let plain = block_plain e.value.head e.payload h.0 h.3.header block in
    let is = block_role (context_after past) e.value.head e.value.content e.value.tail e.payload plain block h.3.payload_is.says in
    let begun : list_any units.is_data (roles past ++ role e.value ∷ []) ≡ true =
    list_any-append units.is_data (roles past) (role e.value ∷ []) ∙ or_right (list_any units.is_data (roles past)) (list_any units.is_data (role e.value ∷ [])) (rw is.0 refl) in
    let others : flat_map definitions_of (roles es) ≡ [] = none_defined (roles past ++ role e.value ∷ []) (roles es) begun passes.1 in
    let first : definitions_of (role e.value) ≡ [] = is.1 in
    rw (first, others) refl

-- ---- the whole list

lasting : (past : List Entry) (bytes : List ℕ) (e : Entry) (es : List Entry) → Keeps past → AdmittedAfter past bytes (e ∷ es) → admitted.AdmittedAfter (roles past) (roles (e ∷ es))
    → PayloadOf (context_after (past ++ (e ∷ es))) e.value.head.kind e.value.content e.value.tail e.payload
unfolding context_of
lasting past bytes e es keeps h passes =
    let all = e ∷ es in
    let is = h.3.payload_is in
    let k = obu_type_of e.value.head.kind in
    record {
      says = says_elsewhere (context_after past) (context_after (past ++ all)) e.value.head.kind k e.value.content e.value.tail e.payload
          (λ (element : k ≡ AudioElement). sym (length_stays past all (has_codec past bytes e es keeps h element)))
          (λ (block : k ≡ ParameterBlock). same_definitions past all (later_none past bytes e es h passes block))
          is.says;
      bytes = is.bytes;
      tail_is = is.tail_is;
    }

-- an OBU of the list is spelled among all of them
pub record IsSpelled (context : Context) (e : Entry) : Type 0 where
  pub piece : List ℕ
  pub are : AreBytes piece
  pub spells : Spells context e.value e.payload piece

pub spelled_at : (past : List Entry) (bytes : List ℕ) (es : List Entry) (i : ℕ) (e : Entry) → AreBytes bytes → Keeps past → AdmittedAfter past bytes es → admitted.AdmittedAfter (roles past) (roles es)
    → slice_get es i ≡ Some e → IsSpelled (context_after (past ++ es)) e
spelled_at past bytes [] i e are keeps h passes there = absurd cc
spelled_at past bytes (x ∷ xs) zero e are keeps h passes there =
    let parts = AreBytes-parts h.0 h.1 (subst AreBytes h.2 are) in
    subst (λ (y : Entry). IsSpelled (context_after (past ++ x ∷ xs)) y) (same_Some x e there)
    (record { piece = h.0; are = parts.0; spells = record { header = h.3.header; payload_is = lasting past bytes x xs keeps h passes } })
spelled_at past bytes (x ∷ xs) (suc i) e are keeps h passes there =
    let parts = AreBytes-parts h.0 h.1 (subst AreBytes h.2 are) in
    let moved : admitted.AdmittedAfter (roles (past ++ x ∷ [])) (roles xs) = subst (λ (l : List Role). admitted.AdmittedAfter l (roles xs)) (sym (roles_more past x)) passes.1 in
    subst (λ (l : List Entry). IsSpelled (context_after l) e) (append_assoc past (x ∷ []) xs)
    (spelled_at (past ++ x ∷ []) h.1 xs i e parts.1 (keeps-push past x keeps h.3.payload_is h.4) h.5 moved there)
