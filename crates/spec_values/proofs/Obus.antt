-- The spelling of an OBU determines its value; the canonical one is a spelling, and none is shorter.
use Rattle.std.proofs.Common.{◌≡◌, ℕ, ◌+◌, ◌≤◌, List, [], ◌∷◌, ◌++◌, length, refl, sym, ap, subst, ◌∙◌, arith, append-nil, length-append}
use Rattle.spec_bits.specs.Leb.{leb_bytes}
use Rattle.spec_obu.specs.Header.{Head, Header, first_byte}
use Rattle.spec_obu.specs.Canonical.{canonical_header}
use Rattle.spec_bits.proofs.CanonLaws.{leb_canonical, leb_shortest, leb_mono}
use Rattle.spec_obu.proofs.CanonicalLaws.{canonical_is, canonical_shortest}
use Rattle.spec_obu.proofs.OneHeader.{same_front}
use Rattle.spec_values.specs.Content.{Content, Context, PayloadOf}
use Rattle.spec_values.specs.Value.{ObuValue, Spells}
use Rattle.spec_values.specs.Canonical.{canonical_payload, canonical_obu}
use Rattle.spec_values.specs.Laws.{OneValue, NoPrefix, CanonicalSpells, NeverLonger}
use Rattle.spec_values.proofs.Payloads.{one_content, canonical_payload_is}

-- ---- one value

abbrev pub made : Head → Content → List ℕ → ObuValue
made head content tail = record { head = head; content = content; tail = tail }

-- two OBUs at the front of the same bytes
pub record SameFirst (o q : ObuValue) (payload other rest more : List ℕ) : Type 0 where
  pub values : o ≡ q
  pub payloads : payload ≡ other
  pub rests : rest ≡ more

pub same_first : (context : Context) (o q : ObuValue) (payload other piece part rest more : List ℕ) → Spells context o payload piece → Spells context q other part → piece ++ rest ≡ part ++ more → SameFirst o q payload other rest more
same_first context o q payload other piece part rest more h g e =
    let s = same_front o.head q.head payload other piece part rest more h.header g.header e in
    let there : PayloadOf context o.head.kind q.content q.tail payload =
    subst (λ (n : Head). PayloadOf context n.kind q.content q.tail payload) (sym s.head) (subst (λ (b : List ℕ). PayloadOf context q.head.kind q.content q.tail b) (sym s.payload) g.payload_is) in
    let one = one_content context o.head.kind payload o.tail q.tail o.content q.content h.payload_is there in
    let values : o ≡ q = ap (λ (x : Head). made x o.content o.tail) s.head ∙ ap (λ (x : Content). made q.head x o.tail) one.0 ∙ ap (made q.head q.content) one.1 in
    record { values = values; payloads = s.payload; rests = s.after }

pub one_value : OneValue
one_value context o q p r bytes h g = let s = same_first context o q p r bytes bytes [] [] h g refl in (s.values, s.payloads)

pub no_prefix : NoPrefix
no_prefix context other o q p r bytes more h g =
    let s = same_front o.head q.head p r bytes (bytes ++ more) more [] h.header g.header (sym (append-nil (bytes ++ more))) in
    s.after

-- an OBU has a first byte
pub not_empty : (h : Head) (payload piece rest : List ℕ) → Header h payload piece → [] ≡ piece ++ rest → ⊥
not_empty h payload piece rest is e = let f = rw is.bytes at e in cc

-- ---- the canonical spelling

record Shorter (h : Head) (payload new b : List ℕ) : Type 0 where
  pub is : Header h new (canonical_header h new)
  pub least : length (canonical_header h new) ≤ length b

-- the header that stood before a payload stands before one that is no longer
shorter_header : (h : Head) (payload new b : List ℕ) → length new ≤ length payload → Header h payload b → Shorter h payload new b
shorter_header h payload new b le is =
    let old = is.trim ++ (is.extension ++ payload) in
    let rest = is.trim ++ (is.extension ++ new) in
    let lengths : (length old ≡ length is.trim + (length is.extension + length payload)) × (length rest ≡ length is.trim + (length is.extension + length new)) = (
      omega (arith, length-append is.trim (is.extension ++ payload), length-append is.extension payload),
      omega (arith, length-append is.trim (is.extension ++ new), length-append is.extension new),
    ) in
    let smaller : length rest ≤ length old = omega (arith, lengths.0, lengths.1, le) in
    let size = leb_bytes (length rest) in
    let size_short : length size ≤ length is.size = omega (arith, leb_mono (length rest) (length old) smaller, leb_shortest (length old) is.size is.size_is) in
    let whole = first_byte h ∷ (size ++ rest) in
    let short : length whole ≤ length b = omega (arith, ap length is.bytes, smaller, size_short, length-append size rest, length-append is.size old) in
    let there : Header h new whole =
    record {
      size = size;
      trim = is.trim;
      extension = is.extension;
      bytes = refl;
      size_is = (leb_canonical (length rest) (omega (arith, smaller, is.size_is.below))).1;
      trim_is = is.trim_is;
      extension_is = is.extension_is;
      kind_is = is.kind_is;
      allowed = is.allowed;
      short = omega (arith, short, is.short);
    } in
    record { is = canonical_is h new whole there; least = omega (arith, canonical_shortest h new whole there, short) }

pub record ShortestObu (context : Context) (o : ObuValue) (bytes : List ℕ) : Type 0 where
  pub spells : Spells context o (canonical_payload o) (canonical_obu o)
  pub least : length (canonical_obu o) ≤ length bytes

shortest_obu : (context : Context) (o : ObuValue) (p bytes : List ℕ) → Spells context o p bytes → ShortestObu context o bytes
unfolding canonical_obu
shortest_obu context o p bytes h =
    let payload = canonical_payload_is context o.head.kind o.content o.tail p h.payload_is in
    let header = shorter_header o.head p (canonical_payload o) bytes payload.least h.header in
    record { spells = record { header = header.is; payload_is = payload.is }; least = header.least }

pub canonical_spells : CanonicalSpells
canonical_spells context o p bytes h = (shortest_obu context o p bytes h).spells

pub never_longer : NeverLonger
never_longer context o p bytes h = (shortest_obu context o p bytes h).least
