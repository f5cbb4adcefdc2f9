use Rattle.std.proofs.Common.{rules, refl}
use Rattle.spec_descriptors.specs.CodecConfig.{StreamInfoFields, stream_info}
use Rattle.obu_codec_config.proofs.stream_info.read_stream_info.Goals as goal

pub returns-clause-gives : goal.returns-clause-gives
unfolding stream_info
returns-clause-gives c =
    let info : StreamInfoFields = record {
      is_last = c.in_ok-is_last.field-0;
      min_block_size = c.in_ok-_min_block_size._min_block_size;
      max_block_size = c.in_ok-_max_block_size._max_block_size;
      min_frame_size = c.in_ok-_min_frame_size._min_frame_size;
      max_frame_size = c.in_ok-_max_frame_size._max_frame_size;
      sample_rate = c.in_ok-rate.rate;
      channels_less_one = c.in_ok-_channels_less_one._channels_less_one;
      depth_less_one = c.in_ok-depth.field-0;
      total_samples_high = c.in_ok-_total_samples_high._total_samples_high;
      total_samples_low = c.in_ok-_total_samples_low._total_samples_low;
      digest = c.in_ok-_digest._digest.now;
    } in
    (info, record { is_last = refl; depth = refl; rate = refl }, search rules)
