-- Of any bytes exactly one holds, a payload or a fault; and the canonical payload is one, and the shortest.
use Rattle.std.proofs.Common.{◌≡◌, ℕ, ◌/◌, ◌≤◌, ◌⊎◌, inl, inr, List, [], ◌++◌, length, drop, sym, ap, subst, ◌∙◌, arith, length-append}
use Rattle.spec_bits.specs.Bits.{Bits, AreBytes, all_bits}
use Rattle.spec_bits.proofs.BitsLaws.{length-all_bits, all_bits-append}
use Rattle.spec_syntax.specs.Payload.{FieldValue, Payload, Stands, canon}
use Rattle.spec_values.specs.declared.fault.Fault.{Fault}
use Rattle.spec_obu.specs.declared.obu_type.ObuType.{ObuType}
use Rattle.spec_obu.specs.Kinds.{obu_type_of}
use Rattle.spec_values.specs.Content.{Content, Context, Says, SaysNot, PayloadOf, PayloadFault, fields_of}
use Rattle.spec_values.specs.Canonical.{packed}
use Rattle.spec_values.specs.Laws.{IsExactPayload}
use Rattle.spec_values.proofs.WholeBytes.{fills_spelling}
use Rattle.spec_bits.proofs.ByteForms.{AreBytes-append, same_bytes}
use Rattle.spec_values.proofs.BytesOfBits.{bytes-drop, packed_is, rest_is}
use Rattle.spec_values.proofs.Tables.{table, says_by, by_says, says_not_by, by_says_not}

-- ---- exactly one

either_says : (context : Context) (obu_type : ℕ) (k : ObuType) (payload : List ℕ) → AreBytes payload
    → ((c : Content) × (tail : List ℕ) × AreBytes tail × Says context obu_type k c tail payload) ⊎ ((f : Fault) × SaysNot context obu_type k f payload)
either_says context obu_type k payload are =
    let t = table context obu_type k in
    elim (t.laws.exact.either (all_bits payload)) [
      | inl g ↦
          let p = g.3 in
          let whole = fills_spelling 0 t.syntax [] g.0 g.1 p.spelling t.fills p.stands in
          let n = length p.spelling / 8 in
          let tail_is : g.2 ≡ all_bits (drop n payload) = rest_is payload p.spelling g.2 p.parts (omega (arith, whole)) in
          let stands : Stands t.syntax [] (t.fields g.1) g.1 p.spelling = subst (λ (xs : List FieldValue). Stands t.syntax [] xs g.1 p.spelling) (t.laws.stands g.0 g.1 p.spelling p.stands) p.stands in
          let spells : Payload t.syntax (t.fields g.1) g.1 (all_bits (drop n payload)) (all_bits payload) =
          record { spelling = p.spelling; stands = stands; parts = p.parts ∙ ap (λ (z : Bits). p.spelling ++ z) tail_is } in
          let tail = bytes-drop n payload are in
          inl (t.content g.1, drop n payload, tail, by_says context obu_type k (drop n payload) payload g.1 tail are spells)
      | inr h ↦ inr (t.fault h.0, by_says_not context obu_type k payload h.0 h.1)
    ]

not_both_say : (context : Context) (obu_type : ℕ) (k : ObuType) (c : Content) (tail payload : List ℕ) (f : Fault) → Says context obu_type k c tail payload → SaysNot context obu_type k f payload → ⊥
not_both_say context obu_type k c tail payload f h g =
    let t = table context obu_type k in
    let a = says_by context obu_type k c tail payload h in
    let b = says_not_by context obu_type k f payload g in
    t.laws.exact.not_both (all_bits payload) (t.fields a.value) a.value (all_bits tail) b.value a.spells b.has

one_said : (context : Context) (obu_type : ℕ) (k : ObuType) (c d : Content) (t u payload : List ℕ) → AreBytes t → AreBytes u → Says context obu_type k c t payload → Says context obu_type k d u payload → (c ≡ d) × (t ≡ u)
one_said context obu_type k c d t u payload p q h g =
    let s = table context obu_type k in
    let a = says_by context obu_type k c t payload h in
    let b = says_by context obu_type k d u payload g in
    let one = s.laws.exact.one_value (all_bits payload) (s.fields a.value) (s.fields b.value) a.value b.value (all_bits t) (all_bits u) a.spells b.spells in
    (sym a.is ∙ ap s.content one.1 ∙ b.is, same_bytes t u p q one.2)

one_not_said : (context : Context) (obu_type : ℕ) (k : ObuType) (f g : Fault) (payload : List ℕ) → SaysNot context obu_type k f payload → SaysNot context obu_type k g payload → f ≡ g
one_not_said context obu_type k f g payload h m =
    let s = table context obu_type k in
    let a = says_not_by context obu_type k f payload h in
    let b = says_not_by context obu_type k g payload m in
    a.is ∙ ap s.fault (s.laws.exact.one_fault (all_bits payload) a.value b.value a.has b.has) ∙ sym b.is

pub either : (context : Context) (obu_type : ℕ) (payload : List ℕ) → AreBytes payload
    → ((c : Content) × (tail : List ℕ) × PayloadOf context obu_type c tail payload) ⊎ ((f : Fault) × PayloadFault context obu_type f payload)
either context obu_type payload are = elim (either_says context obu_type (obu_type_of obu_type) payload are) [
  | inl g ↦ inl (g.0, g.1, record { says = g.3; bytes = are; tail_is = g.2 })
  | inr h ↦ inr (h.0, h.1)
]

pub not_both : (context : Context) (obu_type : ℕ) (payload tail : List ℕ) (c : Content) (f : Fault) → PayloadOf context obu_type c tail payload → PayloadFault context obu_type f payload → ⊥
not_both context obu_type payload tail c f h g = not_both_say context obu_type (obu_type_of obu_type) c tail payload f h.says g

pub one_content : (context : Context) (obu_type : ℕ) (payload t u : List ℕ) (c d : Content) → PayloadOf context obu_type c t payload → PayloadOf context obu_type d u payload → (c ≡ d) × (t ≡ u)
one_content context obu_type payload t u c d h g = one_said context obu_type (obu_type_of obu_type) c d t u payload h.tail_is g.tail_is h.says g.says

pub one_fault : (context : Context) (obu_type : ℕ) (payload : List ℕ) (f g : Fault) → PayloadFault context obu_type f payload → PayloadFault context obu_type g payload → f ≡ g
one_fault context obu_type payload f g h m = one_not_said context obu_type (obu_type_of obu_type) f g payload h m

pub exact_payload : (context : Context) (obu_type : ℕ) → IsExactPayload context obu_type
exact_payload context obu_type = record {
  either = either context obu_type;
  not_both = not_both context obu_type;
  one_content = one_content context obu_type;
  one_fault = one_fault context obu_type;
}

-- ---- the canonical payload

-- fields and the bytes after them
abbrev pub payload_of : ℕ → Content → List ℕ → List ℕ
payload_of obu_type c tail = packed (canon (fields_of obu_type c)) ++ tail

record Canonical (context : Context) (obu_type : ℕ) (k : ObuType) (c : Content) (tail payload : List ℕ) : Type 0 where
  pub says : Says context obu_type k c tail (payload_of obu_type c tail)
  pub bytes : AreBytes (payload_of obu_type c tail)
  pub least : length (payload_of obu_type c tail) ≤ length payload

canonical_said : (context : Context) (obu_type : ℕ) (k : ObuType) (c : Content) (tail payload : List ℕ) → AreBytes tail → Says context obu_type k c tail payload → Canonical context obu_type k c tail payload
canonical_said context obu_type k c tail payload tail_is h =
    let t = table context obu_type k in
    let a = says_by context obu_type k c tail payload h in
    let fields = t.fields a.value in
    let valid = t.laws.valid fields a.value a.spells.spelling a.spells.stands in
    let whole = fills_spelling 0 t.syntax [] fields a.value (canon fields) t.fills valid in
    let p = packed_is (canon fields) (omega (arith, whole)) in
    let new = packed (canon fields) ++ tail in
    let bits : all_bits new ≡ canon fields ++ all_bits tail = all_bits-append (packed (canon fields)) tail ∙ ap (λ (z : Bits). z ++ all_bits tail) p.0 in
    let bytes : AreBytes new = AreBytes-append (packed (canon fields)) tail p.1 tail_is in
    let spells : Payload t.syntax fields a.value (all_bits tail) (all_bits new) = record { spelling = canon fields; stands = valid; parts = bits } in
    let says : Says context obu_type k c tail new = subst (λ (d : Content). Says context obu_type k d tail new) a.is (by_says context obu_type k tail new a.value tail_is bytes spells) in
    let shorter = t.laws.exact.shortest a.spells.spelling fields a.value a.spells.stands in
    let least : length new ≤ length payload =
    omega (
      arith,
      shorter,
      ap length bits,
      length-all_bits new,
      length-append (canon fields) (all_bits tail),
      ap length a.spells.parts,
      length-all_bits payload,
      length-append a.spells.spelling (all_bits tail),
    ) in
    let is : new ≡ payload_of obu_type c tail = ap (λ (xs : List FieldValue). packed (canon xs) ++ tail) (sym a.lists) in
    record {
      says = subst (λ (z : List ℕ). Says context obu_type k c tail z) is says;
      bytes = subst AreBytes is bytes;
      least = subst (λ (z : List ℕ). length z ≤ length payload) is least;
    }

pub record ShortestPayload (context : Context) (obu_type : ℕ) (c : Content) (tail payload : List ℕ) : Type 0 where
  pub is : PayloadOf context obu_type c tail (payload_of obu_type c tail)
  pub least : length (payload_of obu_type c tail) ≤ length payload

pub canonical_payload_is : (context : Context) (obu_type : ℕ) (c : Content) (tail payload : List ℕ) → PayloadOf context obu_type c tail payload → ShortestPayload context obu_type c tail payload
canonical_payload_is context obu_type c tail payload h =
    let s = canonical_said context obu_type (obu_type_of obu_type) c tail payload h.tail_is h.says in
    record { is = record { says = s.says; bytes = s.bytes; tail_is = h.tail_is }; least = s.least }
