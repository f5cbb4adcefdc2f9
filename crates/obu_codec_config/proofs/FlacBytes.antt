-- The metadata blocks of a FLAC config: reading them, and the bytes between the place before and the place after.
use Rattle.std.proofs.Common.{◌≡◌, ℕ, ◌+◌, ◌-◌, ◌*◌, ◌/◌, ◌≤◌, true, false, List, [], ◌++◌, length, take, drop, Ok, refl, sym, ap, ◌∙◌, arith, length-append, length-take}
use Rattle.std.specs.Prelude.{slice_range, ◌==◌}
use Rattle.std.proofs.lemmas.List.{take_at, take-append-drop}
use Rattle.spec_bits.specs.declared.FieldFault.{FieldFault}
use Rattle.spec_bits.specs.Bits.{Bits, all_bits}
use Rattle.spec_bits.specs.Form.{Blocks}
use Rattle.spec_bits.specs.Cursor.{Cursor, IsOnByte, bits_before, bits_left}
use Rattle.spec_bits.proofs.BitsLaws.{length-all_bits, all_bits-append, drop-all_bits}
use Rattle.spec_syntax.specs.Syntax.{Syntax, End, Choice, field, ◌>>=◌}
use Rattle.spec_syntax.specs.Reading.{read}
use Rattle.spec_syntax.specs.Payload.{canon}
use Rattle.spec_syntax.proofs.Reading.{read_bind}
use Rattle.spec_syntax.proofs.SyntaxLaws.{reads_so}
use Rattle.spec_descriptors.specs.declared.fault.DescriptorFault.{DescriptorFault}
use Rattle.spec_descriptors.specs.CodecConfig.{StreamInfoFields, CodingFields, Flac, stream_info, flac_config}
use Rattle.spec_descriptors.specs.DescriptorFields.{flac_fields}
use Rattle.spec_descriptors.proofs.CodecConfigFields.{flac_is}
use Rattle.obu_codec_config.specs.declared.stream_info.StreamInfo.{StreamInfo}
use Rattle.obu_codec_config.specs.CodecView.{StandsForInfo, StandsForFlac}
use Rattle.obu_codec_config.proofs.FixedSpelling.{IsFixed, fixed_spelling, fixed_bind}

-- ---- reading

abbrev after_blocks : StreamInfoFields → List ℕ → Syntax DescriptorFault CodingFields
after_blocks info others = End (Flac info others)

abbrev after_info : StreamInfoFields → Syntax DescriptorFault CodingFields
after_info info = Choice (info.is_last == 1) (End []) (field Blocks []) >>= after_blocks info

-- a whole FLAC config was read, with this depth and rate
pub record FlacRead (wrap : FieldFault → DescriptorFault) (c d : Cursor) (depth rate : ℕ) : Type 0 where
  pub info : StreamInfoFields
  pub others : List ℕ
  pub is_read : read wrap flac_config c ≡ Ok (Flac info others, d)
  pub depth_is : depth ≡ info.depth_less_one + 1
  pub rate_is : rate ≡ info.sample_rate

pub flac_alone : (wrap : FieldFault → DescriptorFault) (c d : Cursor) (i : StreamInfo) (info : StreamInfoFields) → StandsForInfo i info → i.is_last ≡ true → read wrap stream_info c ≡ Ok (info, d) → FlacRead wrap c d i.depth i.rate
unfolding flac_config
flac_alone wrap c d i info h last e =
    let is_last : (info.is_last == 1) ≡ true = sym h.is_last ∙ last in
    record { info = info; others = []; is_read = read_bind wrap stream_info after_info c ∙ rw (e, is_last) refl; depth_is = h.depth; rate_is = h.rate }

pub flac_more : (wrap : FieldFault → DescriptorFault) (c d e : Cursor) (i : StreamInfo) (info : StreamInfoFields) (others : List ℕ) → StandsForInfo i info → i.is_last ≡ false → read wrap stream_info c ≡ Ok (info, d)
    → read wrap (field Blocks []) d ≡ Ok (others, e) → FlacRead wrap c e i.depth i.rate
unfolding flac_config
flac_more wrap c d e i info others h more k later =
    let is_more : (info.is_last == 1) ≡ false = sym h.is_last ∙ more in
    record {
      info = info;
      others = others;
      is_read = read_bind wrap stream_info after_info c ∙ rw (k, is_more) (read_bind wrap (field Blocks []) (after_blocks info) d ∙ rw later refl);
      depth_is = h.depth;
      rate_is = h.rate;
    }

-- ---- the bytes

-- the first k bytes have the first 8 * k bits
take-all_bits : (k : ℕ) (xs : List ℕ) (front rest : Bits) → all_bits xs ≡ front ++ rest → length front ≡ 8 * k → all_bits (take k xs) ≡ front
take-all_bits k xs front rest e len =
    let parts : all_bits (take k xs) ++ all_bits (drop k xs) ≡ front ++ rest = sym (all_bits-append (take k xs) (drop k xs)) ∙ ap all_bits (take-append-drop k xs) ∙ e in
    let size : length (all_bits (take k xs)) ≡ length front = omega (arith, length-all_bits (take k xs), length-take k xs, length-all_bits xs, ap length e, length-append front rest, len) in
    sym (take_at (all_bits (take k xs)) (all_bits (drop k xs)) (length front) size) ∙ ap (take (length front)) parts ∙ take_at front rest (length front) refl

flac_fixed : IsFixed flac_config
unfolding flac_config stream_info
flac_fixed = fixed_bind stream_info after_info
    (tt, λ _. (tt, λ _. (tt, λ _. (tt, λ _. (tt, λ _. (tt, λ _. (tt, λ _. (tt, λ _. (tt, λ _. (tt, λ _. (tt, λ _. (tt, λ _. (tt, λ _. tt)))))))))))))
    (λ info. (tt, (tt, λ others. tt)))

pub flac_entry : (wrap : FieldFault → DescriptorFault) (c d : Cursor) (start end depth rate : ℕ) (h : FlacRead wrap c d depth rate) → IsOnByte c → IsOnByte d → start ≡ c.place / 8 → end ≡ d.place / 8
    → StandsForFlac (slice_range d.bytes start end) depth rate (Flac h.info h.others)
flac_entry wrap c d start end depth rate h on on' is is' =
    let entry : CodingFields = Flac h.info h.others in
    let t = reads_so wrap flac_config c (entry, d) h.is_read in
    let fields = (flac_is t.fields entry (record { before = bits_before c; bits = t.spelling; stands = t.stands })).0 in
    let spelling : t.spelling ≡ canon (flac_fields h.info h.others) = fixed_spelling flac_config (bits_before c) t.fields entry t.spelling flac_fixed t.stands ∙ ap canon fields in
    let place : 8 * (c.place / 8) ≡ c.place = omega (arith, on) in
    let parts : all_bits (drop (c.place / 8) c.bytes) ≡ t.spelling ++ bits_left d = sym (drop-all_bits (c.place / 8) c.bytes) ∙ ap (λ (i : ℕ). drop i (all_bits c.bytes)) place ∙ t.parts in
    let size : length t.spelling ≡ 8 * (end - start) = omega (arith, on, on', is, is', t.ends) in
    record {
      info = h.info;
      others = h.others;
      is = refl;
      blocks_are =
          ap (λ (xs : List ℕ). all_bits (slice_range xs start end)) t.same ∙ ap (λ (i : ℕ). all_bits (take (end - start) (drop i c.bytes))) is
          ∙ take-all_bits (end - start) (drop (c.place / 8) c.bytes) t.spelling (bits_left d) parts size ∙ spelling;
      depth_is = h.depth_is;
      rate_is = h.rate_is;
    }

pub flac_onward : (wrap : FieldFault → DescriptorFault) (c d : Cursor) (depth rate : ℕ) → FlacRead wrap c d depth rate → c.place ≤ d.place
flac_onward wrap c d depth rate h = let t = reads_so wrap flac_config c (Flac h.info h.others, d) h.is_read in omega (arith, t.ends)
