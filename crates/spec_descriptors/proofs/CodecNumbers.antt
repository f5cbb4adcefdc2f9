-- The numbers of a codec config: a frame has 1 to 65535 samples of one of the depths that there are, and their rate is at
-- most 96000.
use Rattle.std.proofs.Common.{arith, ◌≡◌, ◌≤◌, ℕ, ◌+◌, true, List, [], subst}
use Rattle.std.specs.Prelude.{◌==◌, ◌<◌, IsTrue}
use Rattle.std.proofs.lemmas.Bool.{not-false, ltb-false, eqb-false, or_parts}
use Rattle.std.proofs.lemmas.Bool.Decides.{nat_tests}
use Rattle.spec_bits.specs.Form.{Blocks}
use Rattle.spec_samples.specs.Lpcm.{is_depth}
use Rattle.spec_syntax.specs.Syntax.{End, Choice, field}
use Rattle.spec_syntax.specs.Payload.{FieldValue, IsValid, canon}
use Rattle.spec_syntax.proofs.Fields.{Has, field_step, end_step, choice_step, bind_step}
use Rattle.spec_descriptors.specs.CodecConfig.{StreamInfoFields, CodingFields, Lpcm, Flac, CodecConfigFields, is_rate, lpcm_config, stream_info, flac_config, codec_config}
use Rattle.spec_descriptors.specs.DescriptorFields.{codec_config_fields}

abbrev pub HasDepth : CodingFields → Type 0
HasDepth (Lpcm is_little depth rate) = IsTrue (is_depth depth)
HasDepth (Flac info others) = IsTrue (is_depth (info.depth_less_one + 1))

abbrev pub HasRate : CodingFields → Type 0
HasRate (Lpcm is_little depth rate) = rate ≤ 96000
HasRate (Flac info others) = info.sample_rate ≤ 96000

pub record HasNumbers (c : CodecConfigFields) : Type 0 where
  pub some : 0 < c.num_samples_per_frame
  pub length : c.num_samples_per_frame ≤ 65535
  pub depth : HasDepth c.coding
  pub rate : HasRate c.coding

-- ---- the codings

rate_low : (n : ℕ) → is_rate n ≡ true → n ≤ 96000
rate_low n e = grind (arith, nat_tests)

abbrev IsCoding : CodingFields → Type 0
IsCoding r = HasDepth r × HasRate r

lpcm_numbers : (xs : List FieldValue) (r : CodingFields) → Has lpcm_config xs r → IsCoding r
unfolding lpcm_config
lpcm_numbers xs r h =
    field_step h λ flags ys e f p h1.
    field_step h1 λ depth ys1 e1 f1 p1 h2.
    field_step h2 λ rate ys2 e2 f2 p2 h3.
    end_step h3 λ e3 is.
    subst IsCoding is (not-false (is_depth depth) p1.0, rate_low rate (not-false (is_rate rate) p2.0))

abbrev IsInfo : StreamInfoFields → Type 0
IsInfo info = IsTrue (is_depth (info.depth_less_one + 1)) × (info.sample_rate ≤ 96000)

info_numbers : (xs : List FieldValue) (r : StreamInfoFields) → Has stream_info xs r → IsInfo r
unfolding stream_info
info_numbers xs r h =
    field_step h λ is_last ys e f p h1.
    field_step h1 λ block_type ys1 e1 f1 p1 h2.
    field_step h2 λ block_length ys2 e2 f2 p2 h3.
    field_step h3 λ min_block ys3 e3 f3 p3 h4.
    field_step h4 λ max_block ys4 e4 f4 p4 h5.
    field_step h5 λ min_frame ys5 e5 f5 p5 h6.
    field_step h6 λ max_frame ys6 e6 f6 p6 h7.
    field_step h7 λ rate ys7 e7 f7 p7 h8.
    field_step h8 λ channels ys8 e8 f8 p8 h9.
    field_step h9 λ depth ys9 e9 f9 p9 h10.
    field_step h10 λ high ys10 e10 f10 p10 h11.
    field_step h11 λ low ys11 e11 f11 p11 h12.
    field_step h12 λ digest ys12 e12 f12 p12 h13.
    end_step h13 λ e13 is.
    subst IsInfo is (not-false (is_depth (depth + 1)) p9.0, rate_low rate (not-false (is_rate rate) p7.0))

flac_numbers : (xs : List FieldValue) (r : CodingFields) → Has flac_config xs r → IsCoding r
unfolding flac_config
flac_numbers xs r h =
    bind_step stream_info _ h λ front ys info e first h1.
    bind_step (Choice (info.is_last == 1) (End []) (field Blocks [])) (λ list. End (Flac info list)) h1 λ front1 ys1 others e1 second h2.
    end_step h2 λ e2 is.
    subst IsCoding is (info_numbers front info first)

-- ---- the whole

pub config_numbers : (xs : List FieldValue) (r : CodecConfigFields) → Has codec_config xs r → HasNumbers r
unfolding codec_config
config_numbers xs r h =
    field_step h λ id ys e f p h1.
    field_step h1 λ codec ys1 e1 f1 p1 h2.
    field_step h2 λ samples ys2 e2 f2 p2 h3.
    field_step h3 λ roll ys3 e3 f3 p3 h4.
    bind_step (Choice (codec == 0x664c6143) flac_config lpcm_config) (λ found. End (record { codec_config_id = id; num_samples_per_frame = samples; coding = found })) h4 λ front ys4 coding e4 first h5.
    end_step h5 λ e5 is.
    let part : IsCoding coding = choice_step first (λ flac h6. flac_numbers front coding h6) (λ other h6. lpcm_numbers front coding h6) in
    let tests = or_parts _ _ p2.0 in
    let none = eqb-false samples 0 tests.0 in
    subst HasNumbers is (record {
      some = omega (arith, none);
      length = ltb-false 65535 samples tests.1;
      depth = part.0;
      rate = part.1;
    })

pub valid_numbers : (c : CodecConfigFields) → IsValid codec_config codec_config_fields c → HasNumbers c
valid_numbers c valid = config_numbers (codec_config_fields c) c (record { before = []; bits = canon (codec_config_fields c); stands = valid })
