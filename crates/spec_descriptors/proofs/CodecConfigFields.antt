-- A codec config stands for one list of fields.
use Rattle.std.proofs.Common.{◌≡◌, ℕ, ℤ, pos, negsuc, Bool, true, false, List, [], refl, sym, subst, ◌∙◌, ap, arith}
use Rattle.std.specs.Prelude.{◌==◌, nat_lt, if◌then◌else◌}
use Rattle.std.proofs.lemmas.Bool.{eqb-true, eqb-false, ltb-false, not-false}
use Rattle.std.proofs.lemmas.List.{append-nil}
use Rattle.spec_syntax.specs.Payload.{FieldValue, IsPlain}
use Rattle.spec_syntax.specs.Laws.{IsSyntaxOf}
use Rattle.spec_descriptors.specs.declared.fault.DescriptorFault.TheVariants as fault
use Rattle.spec_syntax.proofs.Fields.{Has, field_step, end_step, choice_step, bind_step, syntax_of}
use Rattle.spec_syntax.proofs.Plain.{plain_bind}
use Rattle.spec_descriptors.specs.CodecConfig.{StreamInfoFields, CodingFields, CodecConfigFields, is_not_zero, lpcm_config, stream_info, flac_config, codec_config}
use Rattle.spec_descriptors.specs.DescriptorFields.{lpcm_fields, stream_info_fields, flac_fields, coding_fields, codec_id_of, codec_config_fields}
use Rattle.spec_bits.proofs.Outcomes.{both_true}
use Rattle.spec_descriptors.proofs.Tests.{other_true}

-- ---- LPCM

flag_is : (n : ℕ) → nat_lt 1 n ≡ false → n ≡ (if n == 1 then 1 else 0)
flag_is n e = go (n == 1) refl
  where
    go : (b : Bool) → (n == 1) ≡ b → n ≡ (if n == 1 then 1 else 0)
    go true t = rw t (eqb-true n 1 t)
    go false t = rw t (omega (arith, eqb-false n 1 t, ltb-false 1 n e))

abbrev IsLpcm : List FieldValue → CodingFields → Type 0
IsLpcm xs r = (xs ≡ coding_fields r) × (codec_id_of r ≡ 0x6970636d)

lpcm_is : (xs : List FieldValue) (r : CodingFields) → Has lpcm_config xs r → IsLpcm xs r
unfolding lpcm_config
lpcm_is xs r h =
    field_step h λ flags ys e f p h1.
    field_step h1 λ depth ys1 e1 f1 p1 h2.
    field_step h2 λ rate ys2 e2 f2 p2 h3.
    end_step h3 λ e3 is.
    let fields : xs ≡ lpcm_fields (flags == 1) depth rate = rw (e, e1, e2, e3, ← flag_is flags p.0) refl in
    subst (λ (y : CodingFields). IsLpcm xs y) is (fields, refl)

-- ---- FLAC

stream_info_is : (xs : List FieldValue) (r : StreamInfoFields) → Has stream_info xs r → xs ≡ stream_info_fields r
unfolding stream_info
stream_info_is xs r h =
    field_step h λ is_last y e f p h1.
    field_step h1 λ block_type y1 e1 f1 p1 h2.
    field_step h2 λ block_length y2 e2 f2 p2 h3.
    field_step h3 λ min_block y3 e3 f3 p3 h4.
    field_step h4 λ max_block y4 e4 f4 p4 h5.
    field_step h5 λ min_frame y5 e5 f5 p5 h6.
    field_step h6 λ max_frame y6 e6 f6 p6 h7.
    field_step h7 λ rate y7 e7 f7 p7 h8.
    field_step h8 λ channels y8 e8 f8 p8 h9.
    field_step h9 λ depth y9 e9 f9 p9 h10.
    field_step h10 λ high y10 e10 f10 p10 h11.
    field_step h11 λ low y11 e11 f11 p11 h12.
    field_step h12 λ digest y12 e12 f12 p12 h13.
    end_step h13 λ e13 is.
    let both = both_true (block_type == 0) (block_length == 34) (not-false _ p2.0) in
    let type_is : block_type ≡ 0 = eqb-true block_type 0 both.0 in
    let length_is : block_length ≡ 34 = eqb-true block_length 34 both.1 in
    subst (λ (y : StreamInfoFields). xs ≡ stream_info_fields y) is (rw (e, e1, e2, e3, e4, e5, e6, e7, e8, e9, e10, e11, e12, e13, type_is, length_is) refl)

abbrev IsFlac : List FieldValue → CodingFields → Type 0
IsFlac xs r = (xs ≡ coding_fields r) × (codec_id_of r ≡ 0x664c6143)

pub flac_is : (xs : List FieldValue) (r : CodingFields) → Has flac_config xs r → IsFlac xs r
unfolding flac_config
flac_is xs r h =
    bind_step stream_info _ h λ front ys info e first h1.
    let front_is = stream_info_is front info first in
    choice_step h1
    (λ some h2.
    end_step h2 λ e2 is.
    let fields : xs ≡ flac_fields info [] = rw (e, e2, front_is, some) refl in
    subst (λ (y : CodingFields). IsFlac xs y) is (fields, refl))
    (λ none h2.
    field_step h2 λ others zs e2 f2 p2 h3.
    end_step h3 λ e3 is.
    let fields : xs ≡ flac_fields info others = rw (e, e2, e3, front_is, none) refl in
    subst (λ (y : CodingFields). IsFlac xs y) is (fields, refl))

-- ---- the whole

is_zero : (z : ℤ) → is_not_zero z ≡ false → z ≡ pos 0
is_zero (pos n) e = ap pos (eqb-true n 0 (not-false _ e))
is_zero (negsuc n) e = absurd cc

codec_config_is : (xs : List FieldValue) (r : CodecConfigFields) → Has codec_config xs r → xs ≡ codec_config_fields r
unfolding codec_config
codec_config_is xs r h =
    field_step h λ id ys e f p h1.
    field_step h1 λ codec ys1 e1 f1 p1 h2.
    field_step h2 λ frame ys2 e2 f2 p2 h3.
    field_step h3 λ roll ys3 e3 f3 p3 h4.
    let roll_is : roll ≡ pos 0 = is_zero roll p3.0 in
    choice_step h4
    (λ some h5.
    bind_step flac_config _ h5 λ front ys4 coding e4 first h6.
    end_step h6 λ e5 is.
    let part = flac_is front coding first in
    let codec_is : codec ≡ codec_id_of coding = eqb-true codec 0x664c6143 some ∙ sym part.1 in
    subst (λ (y : CodecConfigFields). xs ≡ codec_config_fields y) is (rw (e, e1, e2, e3, e4, e5, append-nil, part.0, roll_is, codec_is) refl))
    (λ none h5.
    bind_step lpcm_config _ h5 λ front ys4 coding e4 first h6.
    end_step h6 λ e5 is.
    let part = lpcm_is front coding first in
    let codec_is : codec ≡ codec_id_of coding = eqb-true codec 0x6970636d (other_true _ _ (not-false _ p1.1.1.0) none) ∙ sym part.1 in
    subst (λ (y : CodecConfigFields). xs ≡ codec_config_fields y) is (rw (e, e1, e2, e3, e4, e5, append-nil, part.0, roll_is, codec_is) refl))

-- ---- no field asks for the bits before

flac_plain : IsPlain flac_config
unfolding flac_config stream_info
flac_plain = λ is_last block_type block_length min_block max_block min_frame max_frame rate channels depth high low digest. (tt, λ others. tt)

lpcm_plain : IsPlain lpcm_config
unfolding lpcm_config
lpcm_plain = λ flags depth rate. tt

codec_config_plain : IsPlain codec_config
unfolding codec_config
codec_config_plain = λ id codec frame roll. (plain_bind flac_config _ flac_plain (λ coding. tt), plain_bind lpcm_config _ lpcm_plain (λ coding. tt))

pub codec_config_syntax : IsSyntaxOf (λ f. fault.Field f) codec_config codec_config_fields
codec_config_syntax = syntax_of _ codec_config codec_config_fields codec_config_is codec_config_plain
