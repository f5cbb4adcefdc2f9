-- OBUs whose spelling is canonical since nothing in it is a number but the size, and that is as short as can be.
use Rattle.std.proofs.Common.{◌≡◌, ℕ, ◌+◌, ◌-◌, ◌≤◌, Bool, true, false, cond, List, [], ◌∷◌, ◌++◌, length, take, length-append, refl, sym, ap, subst, ◌∙◌, arith}
use Rattle.std.specs.Prelude.{Option, None, ◌==◌, slice_range}
use Rattle.spec_bits.specs.Bits.{Bits, AreBytes, all_bits}
use Rattle.spec_bits.specs.declared.FieldFault.{FieldFault}
use Rattle.spec_bits.specs.Form.{Leb128}
use Rattle.spec_bits.specs.Leb.{leb_bytes}
use Rattle.spec_bits.proofs.ByteForms.{same_bytes}
use Rattle.spec_syntax.specs.Syntax.{End, Choice, field}
use Rattle.spec_syntax.specs.Payload.{a_field, Stands, canon}
use Rattle.spec_obu.specs.declared.obu_type.ObuType.{ObuType}
use Rattle.spec_obu.specs.declared.obu_type.ObuType.TheVariants as types
use Rattle.spec_obu.specs.declared.trim.Trim.{Trim}
use Rattle.spec_obu.specs.Kinds.{obu_type_of}
use Rattle.spec_obu.specs.Header.{Head, Header, IsTrim, IsExtension, first_byte}
use Rattle.spec_obu.specs.Canonical.{canonical_trim, canonical_extension, canonical_header}
use Rattle.spec_blocks.specs.AudioFrame.{audio_frame}
use Rattle.spec_values.specs.Content.{Content, Context, Says, PayloadOf, Header as SequenceHeader, Codec, Element, Mix, Block, Frame, Nothing, fields_of}
use Rattle.spec_values.specs.Value.{ObuValue}
use Rattle.spec_values.specs.Canonical.{bytes_of, packed}
use Rattle.iamf_sequence.specs.Anew.{HasNoFields}

-- ---- headers

pub begins : (h : Head) (payload b : List ℕ) → Header h payload b → 1 + length payload ≤ length b
begins h payload b is =
    omega (arith, ap length is.bytes, length-append is.size (is.trim ++ (is.extension ++ payload)), length-append is.trim (is.extension ++ payload), length-append is.extension payload)

front_of : (xs ys : List ℕ) → take (length xs) (xs ++ ys) ≡ xs
front_of [] [] = refl
front_of [] (y ∷ ys) = refl
front_of (x ∷ xs) ys = ap (λ (t : List ℕ). x ∷ t) (front_of xs ys)

size_of : (x : ℕ) (size payload : List ℕ) → slice_range (x ∷ size ++ payload) 1 (length (x ∷ size ++ payload) - length payload) ≡ size
size_of x size payload =
    let n : length (x ∷ size ++ payload) - length payload - 1 ≡ length size = omega (arith, length-append size payload) in
    ap (λ (k : ℕ). take k (size ++ payload)) n ∙ front_of size payload

pub shortest : (h : Head) (payload b : List ℕ) → h.trim ≡ None → h.extension ≡ None → Header h payload b → leb_bytes (length payload) ≡ slice_range b 1 (length b - length payload) → canonical_header h payload ≡ b
unfolding canonical_header
shortest h payload b no_trim no_extension is same =
    let trim : is.trim ≡ [] = subst (λ (t : Option Trim). IsTrim t is.trim) no_trim is.trim_is in
    let extension : is.extension ≡ [] = subst (λ (x : Option (List ℕ)). IsExtension x is.extension) no_extension is.extension_is in
    let bytes : b ≡ first_byte h ∷ is.size ++ payload = is.bytes ∙ ap (λ (t : List ℕ). first_byte h ∷ is.size ++ (t ++ (is.extension ++ payload))) trim ∙ ap (λ (t : List ℕ). first_byte h ∷ is.size ++ (t ++ payload)) extension in
    let size : leb_bytes (length payload) ≡ is.size = same ∙ ap (λ (c : List ℕ). slice_range c 1 (length c - length payload)) bytes ∙ size_of (first_byte h) is.size payload in
    let body : canonical_trim h.trim ++ (canonical_extension h.extension ++ payload) ≡ payload = ap (λ (t : Option Trim). canonical_trim t ++ (canonical_extension h.extension ++ payload)) no_trim ∙ ap (λ (x : Option (List ℕ)). canonical_extension x ++ payload) no_extension in
    ap (λ (c : List ℕ). first_byte h ∷ leb_bytes (length c) ++ c) body ∙ ap (λ (n : List ℕ). first_byte h ∷ n ++ payload) size ∙ sym bytes

-- ---- payloads

delimiter : (context : Context) (kind : ℕ) (c : Content) (tail payload : List ℕ) → Says context kind types.TemporalDelimiter c tail payload → packed (canon (fields_of kind c)) ++ tail ≡ payload
unfolding bytes_of
delimiter context kind Nothing tail payload says = says
delimiter context kind (SequenceHeader h) tail payload says = absurd says
delimiter context kind (Codec r) tail payload says = absurd says
delimiter context kind (Element e) tail payload says = absurd says
delimiter context kind (Mix m) tail payload says = absurd says
delimiter context kind (Block b) tail payload says = absurd says
delimiter context kind (Frame s) tail payload says = absurd says

reserved : (context : Context) (kind : ℕ) (c : Content) (tail payload : List ℕ) → Says context kind types.Reserved c tail payload → packed (canon (fields_of kind c)) ++ tail ≡ payload
unfolding bytes_of
reserved context kind Nothing tail payload says = says
reserved context kind (SequenceHeader h) tail payload says = absurd says
reserved context kind (Codec r) tail payload says = absurd says
reserved context kind (Element e) tail payload says = absurd says
reserved context kind (Mix m) tail payload says = absurd says
reserved context kind (Block b) tail payload says = absurd says
reserved context kind (Frame s) tail payload says = absurd says

no_id : (b : Bool) (k s : ℕ) (spelling : Bits) → b ≡ false → Stands {F = FieldFault} (Choice b (field Leb128 []) (End k)) [] (cond b (a_field Leb128 s ∷ []) []) s spelling → (spelling ≡ []) × (packed (canon (cond b (a_field Leb128 s ∷ []) [])) ≡ [])
unfolding bytes_of
no_id true k s spelling is stands =
    let none : ⊥ = cc in
    absurd none
no_id false k s spelling is stands = (stands.1, refl)

frame : (context : Context) (kind : ℕ) (c : Content) (tail payload : List ℕ) → (kind == 5) ≡ false → AreBytes tail → AreBytes payload → Says context kind types.AudioFrame c tail payload → packed (canon (fields_of kind c)) ++ tail ≡ payload
unfolding audio_frame
frame context kind (Frame s) tail payload other tail_is are says =
    let none = no_id (kind == 5) (kind - 6) s says.spelling other says.stands in
    let bits : all_bits payload ≡ all_bits tail = says.parts ∙ ap (λ (b : Bits). b ++ all_bits tail) none.0 in
    ap (λ (b : List ℕ). b ++ tail) none.1 ∙ sym (same_bytes payload tail are tail_is bits)
frame context kind Nothing tail payload other tail_is are says = absurd says
frame context kind (SequenceHeader h) tail payload other tail_is are says = absurd says
frame context kind (Codec r) tail payload other tail_is are says = absurd says
frame context kind (Element e) tail payload other tail_is are says = absurd says
frame context kind (Mix m) tail payload other tail_is are says = absurd says
frame context kind (Block b) tail payload other tail_is are says = absurd says

said_as : (context : Context) (kind : ℕ) (t : ObuType) (o : ObuValue) (payload : List ℕ) → o.head.kind ≡ kind → obu_type_of kind ≡ t → PayloadOf context o.head.kind o.content o.tail payload → Says context o.head.kind t o.content o.tail payload
said_as context kind t o payload same typed is = subst (λ (x : ObuType). Says context o.head.kind x o.content o.tail payload) (ap obu_type_of same ∙ typed) is.says

pub no_fields_delimiter : (kind : ℕ) → obu_type_of kind ≡ types.TemporalDelimiter → HasNoFields kind
no_fields_delimiter kind typed = λ context o payload same is. delimiter context o.head.kind o.content o.tail payload (said_as context kind types.TemporalDelimiter o payload same typed is)

pub no_fields_reserved : (kind : ℕ) → obu_type_of kind ≡ types.Reserved → HasNoFields kind
no_fields_reserved kind typed = λ context o payload same is. reserved context o.head.kind o.content o.tail payload (said_as context kind types.Reserved o payload same typed is)

pub no_fields_frame : (kind : ℕ) → obu_type_of kind ≡ types.AudioFrame → (kind == 5) ≡ false → HasNoFields kind
no_fields_frame kind typed other = λ context o payload same is.
    frame context o.head.kind o.content o.tail payload (ap (λ (k : ℕ). k == 5) same ∙ other) is.tail_is is.bytes (said_as context kind types.AudioFrame o payload same typed is)
