-- A payload of canonical fields and a tail, with a canonical header, is the canonical spelling of the OBU.
use Rattle.std.proofs.Common.{◌≡◌, ℕ, ◌≤◌, ◌^◌, List, [], ◌++◌, length, sym, ap, subst, ◌∙◌, arith}
use Rattle.std.specs.Prelude.{Result, Ok, Err, OnOk}
use Rattle.spec_bits.specs.Bits.{Bits, AreBytes, all_bits}
use Rattle.spec_bits.proofs.BitsLaws.{all_bits-append}
use Rattle.spec_bits.proofs.ByteForms.{same_bytes, AreBytes-append}
use Rattle.spec_syntax.specs.Payload.{FieldValue, canon}
use Rattle.spec_obu.specs.Header.{Head, Header}
use Rattle.spec_obu.specs.Kinds.{obu_type_of}
use Rattle.spec_obu.specs.Canonical.{canonical_header}
use Rattle.spec_values.specs.Content as said
use Rattle.spec_values.specs.Content.{Context, PayloadOf, fields_of}
use Rattle.spec_values.specs.Value.{ObuValue, Spells}
use Rattle.spec_values.specs.Canonical.{packed, canonical_obu}
use Rattle.spec_values.proofs.WholeBytes.{fills_spelling}
use Rattle.spec_values.proofs.BytesOfBits.{packed_is}
use Rattle.spec_values.proofs.Tables.{table, says_by}
use Rattle.spec_values.proofs.Payloads.{payload_of, canonical_payload_is}
use Rattle.spec_values.proofs.Obus.{never_longer}
use Rattle.obu_codec_config.proofs.ReadingBack.{one_entry}
use Rattle.iamf_obu.specs.declared.content.Content.{Content}
use Rattle.iamf_obu.specs.declared.content.Content.TheVariants.{SequenceHeader, CodecConfig, AudioElement, MixPresentation, ParameterBlock, TemporalDelimiter, AudioFrame, Reserved}
use Rattle.iamf_obu.specs.ContentReading.{IsRead}
use Rattle.iamf_obu.specs.ContentView.{type_in, Holds, IsValidContent}
use Rattle.iamf_obu.specs.ContentWriting.{value_of, rest_bytes, SpellsPayload, IsShort, PutsObu}
use Rattle.iamf_obu.proofs.TailBytes.{tail_bytes}
use Rattle.iamf_obu.proofs.ContentPayload.{payload_is_of, some_content}

canonical_bits : (context : Context) (kind : ℕ) (c : said.Content) (tail payload : List ℕ) → PayloadOf context kind c tail payload → all_bits (payload_of kind c tail) ≡ canon (fields_of kind c) ++ all_bits tail
canonical_bits context kind c tail payload h =
    let t = table context kind (obu_type_of kind) in
    let a = says_by context kind (obu_type_of kind) c tail payload h.says in
    let fields = t.fields a.value in
    let valid = t.laws.valid fields a.value a.spells.spelling a.spells.stands in
    let whole = fills_spelling 0 t.syntax [] fields a.value (canon fields) t.fills valid in
    let bits : all_bits (packed (canon fields)) ≡ canon fields = (packed_is (canon fields) (omega (arith, whole))).0 in
    let same : all_bits (packed (canon (fields_of kind c))) ≡ canon (fields_of kind c) = subst (λ (xs : List FieldValue). all_bits (packed (canon xs)) ≡ canon xs) (sym a.lists) bits in
    all_bits-append (packed (canon (fields_of kind c))) tail ∙ ap (λ (z : Bits). z ++ all_bits tail) same

payload_is : (context : Context) (kind : ℕ) (c : said.Content) (tail v : List ℕ) → PayloadOf context kind c tail v → all_bits v ≡ canon (fields_of kind c) ++ all_bits tail → v ≡ payload_of kind c tail
payload_is context kind c tail v h bits =
    same_bytes v (payload_of kind c tail) h.bytes (canonical_payload_is context kind c tail v h).is.bytes (bits ∙ sym (canonical_bits context kind c tail v h))

-- two parts that are the payload of a valid content of the type
pub record IsPut (context : Context) (head : Head) (content : Content) (front rest : List ℕ) : Type 0 where
  pub valid : IsValidContent context head.kind content
  pub typed : type_in content ≡ obu_type_of head.kind
  pub spells : SpellsPayload head.kind content front rest
  pub is_rest : rest ≡ rest_bytes content
  pub front_is : AreBytes front
  pub rest_are : AreBytes rest

pub obu_is : (context : Context) (head : Head) (content : Content) (front rest : List ℕ) → IsPut context head content front rest → (c : said.Content) (tail : List ℕ) → Holds content c tail
    → canonical_header head (front ++ rest) ≡ canonical_obu (value_of head c tail)
unfolding canonical_obu
obu_is context head content front rest put c tail holds =
    let bits = put.spells c tail holds in
    let tail_is : AreBytes tail = tail_bytes context head.kind content c tail put.valid holds (subst AreBytes put.is_rest put.rest_are) in
    let said = payload_is_of context head.kind content c tail (front ++ rest) put.valid put.typed holds bits (AreBytes-append front rest put.front_is put.rest_are) tail_is in
    ap (canonical_header head) (payload_is context head.kind c tail (front ++ rest) said bits)

pub is_short : (context : Context) (head : Head) (content : Content) (front rest : List ℕ) → IsPut context head content front rest → IsShort head content → length (canonical_header head (front ++ rest)) ≤ 2 ^ 21
is_short context head content front rest put short =
    let some = some_content context head.kind content put.valid in
    omega (arith, ap length (obu_is context head content front rest put some.0 some.1 some.2), short some.0 some.1 some.2)

pub put_is : {E : Type 0} (context : Context) (head : Head) (content : Content) (front rest : List ℕ) (result : Result (Unit {0}) E) (old new : Bits) → IsPut context head content front rest
    → OnOk result (new ≡ old ++ all_bits (canonical_header head (front ++ rest))) → OnOk result (PutsObu head content old new)
put_is context head content front rest (Ok r) old new put h = λ c tail holds. h ∙ ap (λ (b : List ℕ). old ++ all_bits b) (obu_is context head content front rest put c tail holds)
put_is context head content front rest (Err e) old new put h = tt

-- ---- what was read can be written

-- a record says one thing
one_holding : (content : Content) (c d : said.Content) (t u : List ℕ) → Holds content c t → Holds content d u → (c ≡ d) × (t ≡ u)
one_holding (SequenceHeader h) c d t u a b = (a.0 ∙ sym b.0, a.1 ∙ sym b.1)
one_holding (CodecConfig r) c d t u a b = (a.3 ∙ ap said.Codec (one_entry r a.0 b.0 a.1 b.1 a.2 b.2) ∙ sym b.3, a.4 ∙ sym b.4)
one_holding (AudioElement e) c d t u a b = (a.0 ∙ sym b.0, a.1 ∙ sym b.1)
one_holding (MixPresentation m) c d t u a b = (a.0 ∙ sym b.0, a.1 ∙ sym b.1)
one_holding (ParameterBlock p) c d t u a b = (a.0 ∙ sym b.0, a.1 ∙ sym b.1)
one_holding (TemporalDelimiter bytes) c d t u a b = (a.0 ∙ sym b.0, a.1 ∙ sym b.1)
one_holding (AudioFrame f) c d t u a b = (a.0 ∙ sym b.0, a.1 ∙ sym b.1)
one_holding (Reserved bytes) c d t u a b = (a.0 ∙ sym b.0, a.1 ∙ sym b.1)

pub read_is_short : (context : Context) (head : Head) (content : Content) (payload bytes : List ℕ) → AreBytes payload → Header head payload bytes → IsRead context head.kind (obu_type_of head.kind) payload content → IsShort head content
read_is_short context head content payload bytes are header read c tail holds =
    let same = one_holding content read.said_is c read.tail tail read.holds holds in
    let o : ObuValue = value_of head read.said_is read.tail in
    let spells : Spells context o payload bytes = record { header = header; payload_is = record { says = read.says; bytes = are; tail_is = read.bytes } } in
    let is : o ≡ value_of head c tail = ap (λ (x : said.Content). value_of head x read.tail) same.0 ∙ ap (value_of head c) same.1 in
    subst (λ (q : ObuValue). length (canonical_obu q) ≤ 2 ^ 21) is (omega (arith, never_longer context o payload bytes spells, header.short))
