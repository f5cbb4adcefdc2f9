-- The canonical spelling of a header is one wherever there is one, and the shortest.
use Rattle.std.proofs.Common.{ℕ, ◌≤◌, List, ◌++◌, length, Option, Some, None, refl, ap, arith, length-append}
use Rattle.spec_bits.specs.Leb.{leb_bytes}
use Rattle.spec_obu.specs.declared.trim.Trim.{Trim}
use Rattle.spec_obu.specs.Header.{Head, Header, IsTrim, IsExtension}
use Rattle.spec_obu.specs.Canonical.{canonical_trim, canonical_extension, canonical_body, canonical_header}
use Rattle.spec_obu.specs.Laws.{CanonicalIsHeader, CanonicalIsShortest}
use Rattle.spec_bits.proofs.CanonLaws.{leb_canonical, leb_shortest, leb_mono}

trim_is : (t : Option Trim) (b : List ℕ) → IsTrim t b → IsTrim t (canonical_trim t)
trim_is None b is = refl
trim_is (Some t) b is = (leb_bytes t.end, leb_bytes t.start, (leb_canonical t.end is.2.below).1, (leb_canonical t.start is.3.below).1, refl)

trim_short : (t : Option Trim) (b : List ℕ) → IsTrim t b → length (canonical_trim t) ≤ length b
trim_short None b is = omega arith
trim_short (Some t) b is =
    omega (arith, leb_shortest t.end is.0 is.2, leb_shortest t.start is.1 is.3, length-append (leb_bytes t.end) (leb_bytes t.start), ap length is.4, length-append is.0 is.1)

extension_is : (x : Option (List ℕ)) (b : List ℕ) → IsExtension x b → IsExtension x (canonical_extension x)
extension_is None b is = refl
extension_is (Some x) b is = (leb_bytes (length x), (leb_canonical (length x) is.1.below).1, refl)

extension_short : (x : Option (List ℕ)) (b : List ℕ) → IsExtension x b → length (canonical_extension x) ≤ length b
extension_short None b is = omega arith
extension_short (Some x) b is = omega (arith, leb_shortest (length x) is.0 is.1, length-append (leb_bytes (length x)) x, ap length is.2, length-append is.0 x)

body_short : (h : Head) (payload b : List ℕ) (is : Header h payload b) → length (canonical_body h payload) ≤ length (is.trim ++ (is.extension ++ payload))
body_short h payload b is =
    omega (
      arith,
      trim_short h.trim is.trim is.trim_is,
      extension_short h.extension is.extension is.extension_is,
      length-append is.trim (is.extension ++ payload),
      length-append is.extension payload,
      length-append (canonical_trim h.trim) (canonical_extension h.extension ++ payload),
      length-append (canonical_extension h.extension) payload,
    )

pub canonical_shortest : CanonicalIsShortest
unfolding canonical_header
canonical_shortest h payload b is =
    let body = body_short h payload b is in
    let size = leb_mono (length (canonical_body h payload)) (length (is.trim ++ (is.extension ++ payload))) body in
    let spelled = leb_shortest (length (is.trim ++ (is.extension ++ payload))) is.size is.size_is in
    omega (arith, body, size, spelled, ap length is.bytes, length-append is.size (is.trim ++ (is.extension ++ payload)), length-append (leb_bytes (length (canonical_body h payload))) (canonical_body h payload))

pub canonical_is : CanonicalIsHeader
unfolding canonical_header
canonical_is h payload b is =
    let body = body_short h payload b is in
    let short = canonical_shortest h payload b is in
    record {
      size = leb_bytes (length (canonical_body h payload));
      trim = canonical_trim h.trim;
      extension = canonical_extension h.extension;
      bytes = refl;
      size_is = (leb_canonical (length (canonical_body h payload)) (omega (arith, body, is.size_is.below))).1;
      trim_is = trim_is h.trim is.trim is.trim_is;
      extension_is = extension_is h.extension is.extension is.extension_is;
      kind_is = is.kind_is;
      allowed = is.allowed;
      short = omega (arith, short, is.short);
    }
