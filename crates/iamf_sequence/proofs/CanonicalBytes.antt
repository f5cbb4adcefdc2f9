-- The canonical spelling of an OBU that is spelled by bytes is bytes, and so are many one after the other.
use Rattle.std.proofs.Common.{◌≡◌, ℕ, ◌<◌, List, [], ◌∷◌, ◌++◌, length, append_assoc, append-nil, length-append, sym, ap, subst, ◌∙◌, arith}
use Rattle.std.specs.Prelude.{Option, Some, None}
use Rattle.spec_bits.specs.Bits.{AreBytes}
use Rattle.spec_bits.specs.Leb.{leb_bytes}
use Rattle.spec_bits.proofs.ByteForms.{AreBytes-append, AreBytes-parts}
use Rattle.spec_bits.proofs.CanonLaws.{leb_canonical}
use Rattle.spec_obu.specs.declared.trim.Trim.{Trim}
use Rattle.spec_obu.specs.Header.{Head, Header, IsTrim, IsExtension, first_byte}
use Rattle.spec_obu.specs.Canonical.{canonical_trim, canonical_extension, canonical_body, canonical_header}
use Rattle.spec_values.specs.Content.{Context}
use Rattle.spec_values.specs.Value.{ObuValue, Spells}
use Rattle.spec_values.specs.Canonical.{canonical_payload, canonical_obu, encoded}
use Rattle.spec_values.proofs.Payloads.{canonical_payload_is}
use Rattle.spec_values.proofs.Obus.{canonical_spells}
use Rattle.spec_sequence.specs.Reading.{Entry, values_of}
use Rattle.spec_sequence.proofs.Roles.{values_more}

trim_bytes : (t : Option Trim) (b : List ℕ) → IsTrim t b → AreBytes (canonical_trim t)
trim_bytes None b h = tt
trim_bytes (Some t) b h = AreBytes-append (leb_bytes t.end) (leb_bytes t.start) (leb_canonical t.end h.2.below).0 (leb_canonical t.start h.3.below).0

extension_bytes : (x : Option (List ℕ)) (b : List ℕ) → AreBytes b → IsExtension x b → AreBytes (canonical_extension x)
extension_bytes None b are h = tt
extension_bytes (Some x) b are h = AreBytes-append (leb_bytes (length x)) x (leb_canonical (length x) h.1.below).0 (AreBytes-parts h.0 x (subst AreBytes h.2 are)).1

extension_of : (h : Head) (payload piece : List ℕ) → (is : Header h payload piece) → AreBytes piece → AreBytes is.extension
extension_of h payload piece is are =
    let whole : AreBytes (first_byte h ∷ is.size ++ (is.trim ++ (is.extension ++ payload))) = subst AreBytes is.bytes are in
    (AreBytes-parts is.extension payload (AreBytes-parts is.trim (is.extension ++ payload) (AreBytes-parts is.size (is.trim ++ (is.extension ++ payload)) whole.1).1).1).0

head_byte : (h : Head) (payload piece : List ℕ) → (is : Header h payload piece) → AreBytes piece → first_byte h < 256
head_byte h payload piece is are = let whole : AreBytes (first_byte h ∷ is.size ++ (is.trim ++ (is.extension ++ payload))) = subst AreBytes is.bytes are in whole.0

pub canonical_bytes : (context : Context) (o : ObuValue) (payload piece : List ℕ) → Spells context o payload piece → AreBytes piece → AreBytes (canonical_obu o)
unfolding canonical_obu canonical_header
canonical_bytes context o payload piece s are =
    let h = o.head in
    let new = canonical_payload o in
    let again = canonical_spells context o payload piece s in
    let front : AreBytes (canonical_extension h.extension ++ new) =
    AreBytes-append (canonical_extension h.extension) new (extension_bytes h.extension s.header.extension (extension_of h payload piece s.header are) s.header.extension_is) (canonical_payload_is context h.kind o.content o.tail payload s.payload_is).is.bytes in
    let body : AreBytes (canonical_body h new) = AreBytes-append (canonical_trim h.trim) (canonical_extension h.extension ++ new) (trim_bytes h.trim s.header.trim s.header.trim_is) front in
    let size = (leb_canonical (length (canonical_body h new)) (omega (arith, again.header.short, length-append (leb_bytes (length (canonical_body h new))) (canonical_body h new)))).0 in
    (head_byte h payload piece s.header are, AreBytes-append (leb_bytes (length (canonical_body h new))) (canonical_body h new) size body)

-- ---- one more

encoded-push : (s : List ObuValue) (o : ObuValue) → encoded (s ++ o ∷ []) ≡ encoded s ++ canonical_obu o
encoded-push [] o = append-nil (canonical_obu o)
encoded-push (x ∷ xs) o = ap (λ (b : List ℕ). canonical_obu x ++ b) (encoded-push xs o) ∙ sym (append_assoc (canonical_obu x) (encoded xs) (canonical_obu o))

pub encoded_more : (l : List Entry) (e : Entry) → encoded (values_of (l ++ e ∷ [])) ≡ encoded (values_of l) ++ canonical_obu e.value
encoded_more l e = ap encoded (values_more l e) ∙ encoded-push (values_of l) e.value
