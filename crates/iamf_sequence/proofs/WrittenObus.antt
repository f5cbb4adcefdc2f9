-- OBUs that are written from their views.
use Rattle.std.proofs.Common.{◌≡◌, ℕ, ◌<◌, ◌++◌, List, [], sym, ap, subst, ◌∙◌}
use Rattle.std.specs.Prelude.{Result, Ok, Err, OnOk, Some, IsTrue, is_some, slice_get, option_map}
use Rattle.std.proofs.lemmas.Option.{slice_get-map}
use Rattle.spec_bits.specs.Bits.{Bits, AreBytes, all_bits}
use Rattle.spec_bits.proofs.ByteForms.{same_bytes}
use Rattle.spec_obu.specs.Kinds.{obu_type_of}
use Rattle.spec_obu.specs.Header.{Head, Header, are_allowed}
use Rattle.spec_blocks.specs.Shape.{Definition}
use Rattle.spec_values.specs.declared.fault.Fault.{Fault}
use Rattle.spec_values.specs.Content.{Content, PayloadOf, SaysNot}
use Rattle.spec_values.specs.Value.{ObuValue}
use Rattle.spec_values.specs.Canonical.{canonical_obu}
use Rattle.spec_values.proofs.Payloads.{one_content, not_both}
use Rattle.spec_rules.specs.Descriptors.{frame_length, definitions, context_of}
use Rattle.spec_sequence.specs.Reading.{Entry, values_of, roles, context_after}
use Rattle.obu_header.specs.declared.view.ObuView.{ObuView}
use Rattle.obu_header.specs.View.{head_of}
use Rattle.iamf_obu.specs.declared.content.Content.{Content as Held}
use Rattle.iamf_obu.specs.ContentReading.{IsRead}
use Rattle.iamf_obu.specs.ContentWriting.{context, value_of, IsShort, PutsObu}
use Rattle.iamf_obu.proofs.CanonicalObu.{read_is_short}
use Rattle.iamf_sequence.specs.Encoding.{IsViewOf}
use Rattle.iamf_sequence.proofs.CanonicalBytes.{canonical_bytes}

-- ---- the view's header

header_is : (n : ℕ) (ds : List Definition) (view : ObuView) (o : ObuValue) → (is : IsViewOf n ds view o) → Header (head_of view.head) view.payload.now is.bytes
header_is n ds view o is = subst (λ (h : Head). Header h view.payload.now is.bytes) is.head is.spells.header

pub small_kind : (n : ℕ) (ds : List Definition) (view : ObuView) (o : ObuValue) → IsViewOf n ds view o → view.head.kind < 32
small_kind n ds view o is = (header_is n ds view o is).kind_is

pub allowed_flags : (n : ℕ) (ds : List Definition) (view : ObuView) (o : ObuValue) → IsViewOf n ds view o
    → let h = head_of view.head in IsTrue (are_allowed (obu_type_of h.kind) h.redundant (is_some h.trim))
allowed_flags n ds view o is = (header_is n ds view o is).allowed

-- ---- what was read of it

said_of : (n : ℕ) (ds : List Definition) (view : ObuView) (o : ObuValue) → IsViewOf n ds view o → PayloadOf (context n ds) view.head.kind o.content o.tail view.payload.now
said_of n ds view o is = subst (λ (h : Head). PayloadOf (context n ds) h.kind o.content o.tail view.payload.now) is.head is.spells.payload_is

pub short_obu : (n : ℕ) (ds : List Definition) (view : ObuView) (o : ObuValue) (content : Held) → IsViewOf n ds view o → IsRead (context n ds) view.head.kind (obu_type_of view.head.kind) view.payload.now content → IsShort (head_of view.head) content
short_obu n ds view o content is read = read_is_short (context n ds) (head_of view.head) content view.payload.now is.bytes is.spells.payload_is.bytes (header_is n ds view o is) read

value_is : (n : ℕ) (ds : List Definition) (view : ObuView) (o : ObuValue) (content : Held) → IsViewOf n ds view o → (read : IsRead (context n ds) view.head.kind (obu_type_of view.head.kind) view.payload.now content)
    → value_of (head_of view.head) read.said_is read.tail ≡ o
value_is n ds view o content is read =
    let said : PayloadOf (context n ds) view.head.kind read.said_is read.tail view.payload.now = record { says = read.says; bytes = is.spells.payload_is.bytes; tail_is = read.bytes } in
    let one = one_content (context n ds) view.head.kind view.payload.now read.tail o.tail read.said_is o.content said (said_of n ds view o is) in
    ap (λ (c : Content). value_of (head_of view.head) c read.tail) one.0 ∙ ap (value_of (head_of view.head) o.content) one.1 ∙ ap (λ (h : Head). value_of h o.content o.tail) (sym is.head)

-- it is put
pub view_put : {E : Type 0} (result : Result (Unit {0}) E) (n : ℕ) (ds : List Definition) (view : ObuView) (content : Held) (old new : Bits) → IsRead (context n ds) view.head.kind (obu_type_of view.head.kind) view.payload.now content
    → OnOk result (PutsObu (head_of view.head) content old new) → OnOk result ((o : ObuValue) → IsViewOf n ds view o → new ≡ old ++ all_bits (canonical_obu o))
view_put (Ok done) n ds view content old new read puts = λ o is. puts read.said_is read.tail read.holds ∙ ap (λ (v : ObuValue). old ++ all_bits (canonical_obu v)) (value_is n ds view o content is read)
view_put (Err e) n ds view content old new read puts = tt

-- such an OBU has no fault
pub no_fault : (n : ℕ) (ds : List Definition) (view : ObuView) (o : ObuValue) (f : Fault) → IsViewOf n ds view o → SaysNot (context n ds) view.head.kind (obu_type_of view.head.kind) f view.payload.now → ⊥
no_fault n ds view o f is fault = not_both (context n ds) view.head.kind view.payload.now o.tail o.content f (said_of n ds view o is) fault

-- ---- the bytes of one OBU

pub context_is : (l : List Entry) (n : ℕ) (ds : List Definition) → n ≡ frame_length (roles l) → ds ≡ definitions (roles l) → context_after l ≡ context n ds
unfolding context_of
context_is l n ds length_is definitions_are = ap (λ (k : ℕ). context k (definitions (roles l))) (sym length_is) ∙ ap (context n) (sym definitions_are)

pub one_spelling : (n : ℕ) (ds : List Definition) (view : ObuView) (l : List Entry) (i : ℕ) (e : Entry) (v : List ℕ) (old new : Bits) → IsViewOf n ds view e.value → slice_get l i ≡ Some e → AreBytes v → all_bits v ≡ new
    → ((o : ObuValue) → IsViewOf n ds view o → new ≡ old ++ all_bits (canonical_obu o)) → old ≡ [] → option_map canonical_obu (slice_get (values_of l) i) ≡ Some v
one_spelling n ds view l i e v old new is there are bits put start =
    let all : all_bits v ≡ all_bits (canonical_obu e.value) = bits ∙ put e.value is ∙ ap (λ (b : Bits). b ++ all_bits (canonical_obu e.value)) start in
    let same : v ≡ canonical_obu e.value = same_bytes v (canonical_obu e.value) are (canonical_bytes (context n ds) e.value view.payload.now is.bytes is.spells is.are) all in
    ap (option_map canonical_obu) (slice_get-map (λ (x : Entry). x.value) l i ∙ ap (option_map (λ (x : Entry). x.value)) there) ∙ ap Some (sym same)
