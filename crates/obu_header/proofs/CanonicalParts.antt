-- The canonical spelling of an OBU, part by part.
use Rattle.std.proofs.Common.{◌≡◌, ℕ, ◌+◌, ◌-◌, ◌<◌, ◌≤◌, ◌^◌, List, ◌∷◌, ◌++◌, length, drop, length-append, append_assoc, is_some, Option, Some, None, Result, Ok, Err, refl, sym, ap, ◌∙◌, arith}
use Rattle.std.specs.Prelude.{IsTrue}
use Rattle.std.proofs.lemmas.List.{drop_at}
use Rattle.spec_bits.specs.Leb.{leb_bytes}
use Rattle.spec_bits.proofs.Outcomes.{ok_is}
use Rattle.spec_bits.proofs.CanonLaws.{leb_canonical}
use Rattle.spec_obu.specs.declared.trim.Trim.{Trim}
use Rattle.spec_obu.specs.declared.HeaderFault.{HeaderFault}
use Rattle.spec_obu.specs.Kinds.{obu_type_of}
use Rattle.spec_obu.specs.Header.{Head, Header, IsTrim, IsExtension, first_byte, are_allowed}
use Rattle.spec_obu.specs.Reading.{Front, header_at}
use Rattle.spec_obu.specs.Canonical.{canonical_trim, canonical_extension, canonical_body, canonical_header}
use Rattle.spec_obu.proofs.HeaderLaws.{header_again}
use Rattle.obu_header.specs.declared.view.ObuView.{ObuView}
use Rattle.obu_header.specs.View.{head_of, ReadsAt, IsObu, IsReadBack}
use Rattle.obu_header.specs.HeaderParts.{TrimsFit}

pub body_is : (h : Head) (end start size extension payload : List ℕ) → end ++ start ≡ canonical_trim h.trim → size ++ extension ≡ canonical_extension h.extension
    → end ++ (start ++ (size ++ (extension ++ payload))) ≡ canonical_body h payload
body_is h end start size extension payload trims sized =
    sym (append_assoc end start (size ++ (extension ++ payload))) ∙ ap (λ (b : List ℕ). (end ++ start) ++ b) (sym (append_assoc size extension payload))
    ∙ rw (trims, sized) refl

pub header_is : (h : Head) (end start size extension payload : List ℕ) (n : ℕ) → end ++ start ≡ canonical_trim h.trim → size ++ extension ≡ canonical_extension h.extension → n ≡ length (canonical_body h payload)
    → first_byte h ∷ leb_bytes n ++ (end ++ (start ++ (size ++ (extension ++ payload)))) ≡ canonical_header h payload
unfolding canonical_header
header_is h end start size extension payload n trims sized is = rw (body_is h end start size extension payload trims sized, is) refl

-- ---- how long the parts are

pub body_short : (h : Head) (payload : List ℕ) → length (canonical_header h payload) ≤ 2 ^ 21 → length (canonical_body h payload) < 2 ^ 21
unfolding canonical_header
body_short h payload short = omega (arith, short, length-append (leb_bytes (length (canonical_body h payload))) (canonical_body h payload))

pub extension_short : (h : Head) (payload : List ℕ) → length (canonical_header h payload) ≤ 2 ^ 21 → length (canonical_extension h.extension) ≤ 2 ^ 21
extension_short h payload short =
    omega (arith, body_short h payload short, length-append (canonical_trim h.trim) (canonical_extension h.extension ++ payload), length-append (canonical_extension h.extension) payload)

pub lengths_are : (h : Head) (end start size extension front rest : List ℕ) → end ++ start ≡ canonical_trim h.trim → size ++ extension ≡ canonical_extension h.extension
    → length end + length start + length size + length extension + length front + length rest ≡ length (canonical_body h (front ++ rest))
lengths_are h end start size extension front rest trims sized =
    omega (
      arith,
      ap length trims,
      ap length sized,
      length-append end start,
      length-append size extension,
      length-append (canonical_trim h.trim) (canonical_extension h.extension ++ (front ++ rest)),
      length-append (canonical_extension h.extension) (front ++ rest),
      length-append front rest,
    )

-- ---- the canonical spelling is read again

trim_is : (t : Option Trim) → TrimsFit t → IsTrim t (canonical_trim t)
trim_is None fit = refl
trim_is (Some t) fit = (leb_bytes t.end, leb_bytes t.start, (leb_canonical t.end fit.0).1, (leb_canonical t.start fit.1).1, refl)

extension_is : (x : Option (List ℕ)) → length (canonical_extension x) ≤ 2 ^ 21 → IsExtension x (canonical_extension x)
extension_is None short = refl
extension_is (Some x) short = (leb_bytes (length x), (leb_canonical (length x) (omega (arith, short, length-append (leb_bytes (length x)) x))).1, refl)

pub is_header : (h : Head) (payload : List ℕ) → h.kind < 32 → IsTrue (are_allowed (obu_type_of h.kind) h.redundant (is_some h.trim)) → TrimsFit h.trim → length (canonical_header h payload) ≤ 2 ^ 21
    → Header h payload (canonical_header h payload)
unfolding canonical_header
is_header h payload kind allowed fit short = record {
  size = leb_bytes (length (canonical_body h payload));
  trim = canonical_trim h.trim;
  extension = canonical_extension h.extension;
  bytes = refl;
  size_is = (leb_canonical (length (canonical_body h payload)) (omega (arith, body_short h payload short))).1;
  trim_is = trim_is h.trim fit;
  extension_is = extension_is h.extension (extension_short h payload short);
  kind_is = kind;
  allowed = allowed;
  short = short;
}

is_obu : (h : Head) (payload : List ℕ) (len at : ℕ) (answer : Result ObuView HeaderFault) (read : Result Front HeaderFault) → read ≡ Ok (h, payload, len) → ReadsAt at answer read → IsObu h payload len at answer
is_obu h payload len at (Ok o) read is reads =
    let same : (head_of o.head, o.payload.now, o.end - at) ≡ (h, payload, len) = ok_is {A = Front} {F = HeaderFault} (head_of o.head, o.payload.now, o.end - at) (h, payload, len) (sym reads ∙ is) in
    (ap (λ (x : Front). x.0) same, ap (λ (x : Front). x.1) same, ap (λ (x : Front). x.2) same)
is_obu h payload len at (Err f) read is reads = let same = sym reads ∙ is in cc

pub read_back : (h : Head) (payload : List ℕ) → Header h payload (canonical_header h payload) → IsReadBack h payload
read_back h payload is before after answer reads =
    let there : header_at (drop (length before) (before ++ (canonical_header h payload ++ after))) ≡ Ok (h, payload, length (canonical_header h payload)) =
    ap header_at (drop_at before (canonical_header h payload ++ after) (length before) refl) ∙ header_again h payload (canonical_header h payload) after is in
    is_obu h payload (length (canonical_header h payload)) (length before) answer _ there reads
