-- An OBU that was admitted can be written: a plain one from the content that was handed out, a redundant copy from its view.
use Rattle.std.proofs.Common.{◌≡◌, ℕ, ◌-◌, ◌<◌, true, List, [], ◌∷◌, ◌++◌, take, drop, refl, sym, ap, subst, ◌∙◌}
use Rattle.std.specs.Prelude.{Option, Some, None, Result, Ok, Err, OnOk, IsTrue, is_some}
use Rattle.std.proofs.lemmas.Bool.{and_parts}
use Rattle.std.proofs.lemmas.List.{take-append-drop}
use Rattle.spec_bits.specs.Bits.{Bits, AreBytes, all_bits}
use Rattle.spec_bits.proofs.ByteForms.{AreBytes-parts, same_bytes}
use Rattle.spec_obu.specs.declared.obu_type.ObuType.TheVariants as types
use Rattle.spec_obu.specs.Kinds.{obu_type_of}
use Rattle.spec_obu.specs.Header.{Head, Header, are_allowed, is_copy}
use Rattle.spec_obu.specs.Canonical.{canonical_header}
use Rattle.spec_blocks.specs.Shape.{Definition}
use Rattle.spec_values.specs.Content.{Context, PayloadOf}
use Rattle.spec_values.specs.Value.{ObuValue, Spells}
use Rattle.spec_values.specs.Canonical.{canonical_payload, canonical_obu}
use Rattle.spec_values.proofs.BytesOfBits.{bytes-drop}
use Rattle.spec_rules.specs.Descriptors.{frame_length, definitions, definitions_of, context_of}
use Rattle.spec_rules.proofs.DescriptorLists.{frame_length-push, definitions-push}
use Rattle.spec_sequence.specs.ValueRole.{role}
use Rattle.spec_sequence.specs.Reading.{Entry, roles, context_after}
use Rattle.spec_sequence.proofs.Roles.{roles_more, redundant_role}
use Rattle.spec_sequence.proofs.RedundantCopies.{plain_of}
use Rattle.obu_header.specs.declared.view.ObuView.{ObuView}
use Rattle.obu_header.specs.View.{head_of}
use Rattle.iamf_obu.specs.declared.content.Content.{Content}
use Rattle.iamf_obu.specs.declared.content.Content.TheVariants.{SequenceHeader, CodecConfig, AudioElement, MixPresentation, ParameterBlock, TemporalDelimiter, AudioFrame, Reserved}
use Rattle.iamf_obu.specs.ContentView.{type_in, IsValidContent, HasTrims}
use Rattle.iamf_obu.specs.ContentReading.{IsRead}
use Rattle.iamf_obu.specs.ContentWriting.{context, value_of, IsShort, PutsObu}
use Rattle.iamf_obu.proofs.CanonicalObu.{read_is_short}
use Rattle.iamf_admission.specs.declared.admitted.Admitted.{Admitted}
use Rattle.iamf_admission.specs.AdmissionView.{AdmissionValue}
use Rattle.iamf_admission.specs.Taking.{IsNext, IsSaid, Says}
use Rattle.iamf_sequence.specs.Encoding.{IsViewOf}
use Rattle.iamf_sequence.specs.Anew.{HasNoFields}
use Rattle.iamf_sequence.specs.Walking.{IsOneMore, piece_of}
use Rattle.iamf_sequence.proofs.CanonicalBytes.{canonical_bytes}
use Rattle.iamf_sequence.proofs.WrittenObus.{context_is}

-- ---- the bytes of the OBU

piece_bytes : (k at : ℕ) (bytes : List ℕ) → AreBytes bytes → AreBytes (take k (drop at bytes))
piece_bytes k at bytes are = (AreBytes-parts (take k (drop at bytes)) (drop k (drop at bytes)) (subst AreBytes (sym (take-append-drop k (drop at bytes))) (bytes-drop at bytes are))).0

spells_piece : (bytes : List ℕ) (at : ℕ) (a : AdmissionValue) (view : ObuView) (obu : Admitted) (l : List Entry) (e : Entry) → IsOneMore bytes at a view obu l e → Spells (context_after l) e.value e.payload (piece_of bytes at view)
spells_piece bytes at a view obu l e is =
    let next = is.next.taken.next in
    record {
      header = subst (λ (h : Head). Header h e.payload (piece_of bytes at view)) (sym next.head) (subst (λ (b : List ℕ). Header (head_of view.head) b (piece_of bytes at view)) (sym next.payload) is.next.header);
      payload_is = next.payload_is;
    }

-- ---- a redundant copy

-- it changes nothing of what payloads are read by
copy_context : (l : List Entry) (e : Entry) (n : ℕ) (ds : List Definition) → is_copy e.value.head ≡ true → n ≡ frame_length (roles (l ++ e ∷ [])) → ds ≡ definitions (roles (l ++ e ∷ [])) → context_after l ≡ context n ds
copy_context l e n ds copy length_is definitions_are =
    let ignored = redundant_role e.value (and_parts e.value.head.redundant _ copy).0 in
    context_is l n ds
    (length_is ∙ ap frame_length (roles_more l e) ∙ frame_length-push (roles l) (role e.value) (rw ignored refl))
    (definitions_are ∙ ap definitions (roles_more l e) ∙ definitions-push (roles l) (role e.value) (rw ignored refl))

pub copy_view : (bytes : List ℕ) (at : ℕ) (a : AdmissionValue) (view : ObuView) (obu : Admitted) (l : List Entry) (e : Entry) (n : ℕ) (ds : List Definition) → IsOneMore bytes at a view obu l e → obu.content ≡ None
    → n ≡ frame_length (roles (l ++ e ∷ [])) → ds ≡ definitions (roles (l ++ e ∷ [])) → IsViewOf n ds view e.value
copy_view bytes at a view obu l e n ds is none length_is definitions_are =
    let copy : is_copy e.value.head ≡ true = subst (λ (c : Option Content). Says c l e) none is.next.taken.says in
    record {
      head = is.next.taken.next.head;
      bytes = piece_of bytes at view;
      are = piece_bytes (view.end - at) at bytes is.are;
      spells = subst (λ (b : List ℕ). Spells (context n ds) e.value b (piece_of bytes at view)) is.next.taken.next.payload
          (subst (λ (x : Context). Spells x e.value e.payload (piece_of bytes at view)) (copy_context l e n ds copy length_is definitions_are) (spells_piece bytes at a view obu l e is));
    }

-- ---- a plain OBU

pub said_is : (content : Content) (obu : Admitted) (l : List Entry) (e : Entry) → obu.content ≡ Some content → Says obu.content l e → IsSaid content l e
said_is content obu l e is says = subst (λ (c : Option Content). Says c l e) is says

pub is_short : (bytes : List ℕ) (at : ℕ) (a : AdmissionValue) (view : ObuView) (obu : Admitted) (l : List Entry) (e : Entry) (content : Content) → IsOneMore bytes at a view obu l e → IsSaid content l e → IsShort (head_of view.head) content
is_short bytes at a view obu l e content is said =
    let next = is.next.taken.next in
    let read : IsRead (context_after l) e.value.head.kind (obu_type_of e.value.head.kind) view.payload.now content =
    record { said_is = e.value.content; tail = e.value.tail; holds = said.holds; bytes = next.payload_is.tail_is; says = (subst (λ (b : List ℕ). PayloadOf (context_after l) e.value.head.kind e.value.content e.value.tail b) next.payload next.payload_is).says } in
    subst (λ (h : Head). IsShort h content) next.head
    (read_is_short (context_after l) e.value.head content view.payload.now (piece_of bytes at view) (subst AreBytes next.payload next.payload_is.bytes)
    (subst (λ (b : List ℕ). Header e.value.head b (piece_of bytes at view)) next.payload (spells_piece bytes at a view obu l e is).header) read)

pub small_kind : (bytes : List ℕ) (at : ℕ) (a : AdmissionValue) (view : ObuView) (obu : Admitted) (l : List Entry) (e : Entry) → IsOneMore bytes at a view obu l e → view.head.kind < 32
small_kind bytes at a view obu l e is = is.next.header.kind_is

pub allowed_flags : (bytes : List ℕ) (at : ℕ) (a : AdmissionValue) (view : ObuView) (obu : Admitted) (l : List Entry) (e : Entry) → IsOneMore bytes at a view obu l e
    → let h = head_of view.head in IsTrue (are_allowed (obu_type_of h.kind) h.redundant (is_some h.trim))
allowed_flags bytes at a view obu l e is = is.next.header.allowed

pub typed : (content : Content) (l : List Entry) (e : Entry) (view : ObuView) → IsNext l view e → IsSaid content l e → type_in content ≡ obu_type_of view.head.kind
typed content l e view next said = said.obu_type ∙ ap (λ (h : Head). obu_type_of h.kind) next.head

pub trimmed : (content : Content) (l : List Entry) (e : Entry) (view : ObuView) → IsNext l view e → IsSaid content l e → HasTrims content view.head.trim
trimmed content l e view next said = subst (λ (h : Head). HasTrims content h.trim) next.head said.trims

-- it is valid among the definitions after it too
pub still_valid : (content : Content) (l : List Entry) (e : Entry) (ds : List Definition) (kind : ℕ) → IsSaid content l e → ds ≡ definitions (roles (l ++ e ∷ [])) → e.value.head.kind ≡ kind
    → IsValidContent (context (frame_length (roles l)) ds) kind content
unfolding context_of
still_valid content l e ds kind said definitions_are same = subst (λ (k : ℕ). IsValidContent (context (frame_length (roles l)) ds) k content) same (one content said) where
  one : (c : Content) → IsSaid c l e → IsValidContent (context (frame_length (roles l)) ds) e.value.head.kind c
  one (SequenceHeader h) s = s.valid
  one (CodecConfig r) s = s.valid
  one (AudioElement x) s = s.valid
  one (MixPresentation m) s = s.valid
  one (ParameterBlock b) s =
      let plain = plain_of e.value.head types.ParameterBlock s.plain s.obu_type (λ x. cc) in
      let none : definitions_of (role e.value) ≡ [] = rw (plain, s.holds.0) refl in
      let stay : definitions (roles l) ≡ ds = sym (definitions_are ∙ ap definitions (roles_more l e) ∙ definitions-push (roles l) (role e.value) none) in
      subst (λ (more : List Definition). IsValidContent (context (frame_length (roles l)) more) e.value.head.kind (ParameterBlock b)) stay s.valid
  one (TemporalDelimiter bytes) s = tt
  one (AudioFrame f) s = s.valid
  one (Reserved bytes) s = tt

-- ---- it is written

pub spelled_bytes : (bytes : List ℕ) (at : ℕ) (a : AdmissionValue) (view : ObuView) (obu : Admitted) (l : List Entry) (e : Entry) → IsOneMore bytes at a view obu l e → AreBytes (canonical_obu e.value)
spelled_bytes bytes at a view obu l e is =
    canonical_bytes (context_after l) e.value e.payload (piece_of bytes at view) (spells_piece bytes at a view obu l e is) (piece_bytes (view.end - at) at bytes is.are)

abbrev pub Puts : Bits → Bits → AdmissionValue → ObuView → Admitted → Type 0
Puts old new a view obu = (bytes : List ℕ) (at : ℕ) (l : List Entry) (e : Entry) → IsOneMore bytes at a view obu l e → new ≡ old ++ all_bits (canonical_obu e.value)

pub plain_put : {E : Type 0} (r : Result (Unit {0}) E) (old new : Bits) (a : AdmissionValue) (view : ObuView) (obu : Admitted) (content : Content) → obu.content ≡ Some content
    → OnOk r (PutsObu (head_of view.head) content old new) → OnOk r (Puts old new a view obu)
plain_put (Ok u) old new a view obu content is puts = λ bytes at l e one.
    let said = said_is content obu l e is one.next.taken.says in
    puts e.value.content e.value.tail said.holds ∙ ap (λ (h : Head). old ++ all_bits (canonical_obu (value_of h e.value.content e.value.tail))) (sym one.next.taken.next.head)
plain_put (Err x) old new a view obu content is puts = tt

pub copy_put : {E : Type 0} (r : Result (Unit {0}) E) (old new : Bits) (a : AdmissionValue) (view : ObuView) (obu : Admitted) (n : ℕ) (ds : List Definition) → obu.content ≡ None
    → ((bytes : List ℕ) (at : ℕ) (l : List Entry) (e : Entry) → IsOneMore bytes at a view obu l e → (n ≡ frame_length (roles (l ++ e ∷ []))) × (ds ≡ definitions (roles (l ++ e ∷ []))))
    → OnOk r ((o : ObuValue) → IsViewOf n ds view o → new ≡ old ++ all_bits (canonical_obu o)) → OnOk r (Puts old new a view obu)
copy_put (Ok u) old new a view obu n ds none known puts = λ bytes at l e one.
    let k = known bytes at l e one in
    puts e.value (copy_view bytes at a view obu l e n ds one none k.0 k.1)
copy_put (Err x) old new a view obu n ds none known puts = tt

-- a spelling that was put alone
pub alone : (v : List ℕ) (bits : Bits) (a : AdmissionValue) (view : ObuView) (obu : Admitted) → AreBytes v → all_bits v ≡ bits → Puts [] bits a view obu
    → (bytes : List ℕ) (at : ℕ) (l : List Entry) (e : Entry) → IsOneMore bytes at a view obu l e → v ≡ canonical_obu e.value
alone v bits a view obu are is puts bytes at l e one = same_bytes v (canonical_obu e.value) are (spelled_bytes bytes at a view obu l e one) (is ∙ puts bytes at l e one)

-- ---- it is there already

-- a header with no number but its size, in an OBU whose payload has no fields
pub already : (bytes : List ℕ) (at : ℕ) (a : AdmissionValue) (view : ObuView) (obu : Admitted) (l : List Entry) (e : Entry) (there : List ℕ) → IsOneMore bytes at a view obu l e → HasNoFields view.head.kind
    → canonical_header (head_of view.head) view.payload.now ≡ there → there ≡ canonical_obu e.value
unfolding canonical_obu
already bytes at a view obu l e there one none is =
    let next = one.next.taken.next in
    let payload : canonical_payload e.value ≡ view.payload.now = none (context_after l) e.value e.payload (ap (λ (h : Head). h.kind) next.head) next.payload_is ∙ next.payload in
    sym (ap (canonical_header e.value.head) payload ∙ ap (λ (h : Head). canonical_header h view.payload.now) next.head ∙ is)
