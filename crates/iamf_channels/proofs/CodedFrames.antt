-- What the code keeps of a codec config says the same of frames as the config does.
use Rattle.std.proofs.Common.{◌≡◌, ◌+◌, ℕ, ℤ, pos, IsTrue, List, [], get_or, sym, ap, subst, ◌∙◌}
use Rattle.spec_samples.specs.Lpcm.{is_depth}
use Rattle.spec_flac.specs.Frame.{IsFrame}
use Rattle.spec_descriptors.specs.CodecConfig.{CodingFields, Flac, CodecConfigFields}
use Rattle.spec_sequence.specs.ValueRole.{codec_role}
use Rattle.spec_play.specs.CodedSamples.{frame_sample, flac_rows}
use Rattle.spec_play.specs.Laws.{IsCodedBy}
use Rattle.obu_codec_config.specs.declared.codec_config.Coding.{Coding}
use Rattle.obu_codec_config.specs.declared.codec_config.Coding.TheVariants as coding
use Rattle.obu_codec_config.specs.CodecView.{StandsForCoding}
use Rattle.iamf_channels.specs.Decoded.{IsStream, shape_by, IsFrameBy, sample_by}

abbrev config : (id frame_length : ℕ) → CodingFields → CodecConfigFields
config id frame_length k = record { codec_config_id = id; num_samples_per_frame = frame_length; coding = k }

abbrev IsDeepAndCoded : (id frame_length channels : ℕ) → List ℕ → CodingFields → Type 0
IsDeepAndCoded id frame_length channels bytes k = IsTrue (is_depth (codec_role id frame_length k).depth) × IsCodedBy (config id frame_length k) channels bytes

pub coded_by : (kept : Coding) (k : CodingFields) (id frame_length channels : ℕ) (bytes : List ℕ) → StandsForCoding kept k → IsTrue (is_depth (codec_role id frame_length k).depth) → IsStream channels
    → IsCodedBy (config id frame_length k) channels bytes → IsFrameBy kept frame_length channels bytes
coded_by (coding.Lpcm little depth rate) k id frame_length channels bytes is deep few coded = subst (IsDeepAndCoded id frame_length channels bytes) is (deep, coded)
coded_by (coding.Flac blocks depth rate) k id frame_length channels bytes is deep few coded =
    let p : IsDeepAndCoded id frame_length channels bytes (Flac is.info is.others) = subst (IsDeepAndCoded id frame_length channels bytes) is.is (deep, coded) in
    let rows : List (List ℤ) = p.1.0 in
    let own : IsFrame (shape_by (is.info.depth_less_one + 1) is.info.sample_rate channels frame_length) bytes rows = p.1.1 in (
      subst (λ (d : ℕ). IsTrue (is_depth d)) (sym is.depth_is) p.0,
      few,
      (rows, subst (λ (d : ℕ). IsFrame (shape_by d rate channels frame_length) bytes rows) (sym is.depth_is) (subst (λ (q : ℕ). IsFrame (shape_by (is.info.depth_less_one + 1) q channels frame_length) bytes rows) (sym is.rate_is) own)),
    )

pub same_samples : (kept : Coding) (k : CodingFields) (id frame_length channels : ℕ) (bytes : List ℕ) (n c : ℕ) → StandsForCoding kept k → sample_by kept frame_length channels bytes n c ≡ frame_sample (config id frame_length k) channels bytes n c
same_samples (coding.Lpcm little depth rate) k id frame_length channels bytes n c is = sym (ap (λ (j : CodingFields). frame_sample (config id frame_length j) channels bytes n c) is)
same_samples (coding.Flac blocks depth rate) k id frame_length channels bytes n c is =
    let all : frame_sample (config id frame_length k) channels bytes n c ≡ get_or (get_or (flac_rows (shape_by (is.info.depth_less_one + 1) is.info.sample_rate channels frame_length) bytes) c []) n (pos 0) =
    ap (λ (j : CodingFields). frame_sample (config id frame_length j) channels bytes n c) is.is in
    ap (λ (d : ℕ). get_or (get_or (flac_rows (shape_by d rate channels frame_length) bytes) c []) n (pos 0)) is.depth_is
    ∙ ap (λ (q : ℕ). get_or (get_or (flac_rows (shape_by (is.info.depth_less_one + 1) q channels frame_length) bytes) c []) n (pos 0)) is.rate_is ∙ sym all
