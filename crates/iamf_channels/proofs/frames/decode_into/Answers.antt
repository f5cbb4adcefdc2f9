use Rattle.std.proofs.Common.{◌≤◌, ◌^◌, ℤ, unsigned_abs, sym, subst}
use Rattle.obu_codec_config.specs.declared.codec_config.Coding.{Coding}
use Rattle.obu_codec_config.specs.declared.codec_config.Coding.TheVariants as coding
use Rattle.iamf_channels.specs.Decoded.{IsFrameBy}
use Rattle.iamf_channels.proofs.SampleSizes.{sample_small}
use Rattle.iamf_channels.proofs.frames.decode_into.Goals as goal

pub returns-in-Lpcm-clause-small : goal.returns-in-Lpcm-clause-small
returns-in-Lpcm-clause-small c = λ k n there within.
    let rows = c.args.rows.now in
    let whole : IsFrameBy (coding.Lpcm c.in-Lpcm.little c.in-Lpcm.depth c.in-Lpcm.rate) rows.length rows.channels c.args.bytes.now =
    subst (λ (x : Coding). IsFrameBy x rows.length rows.channels c.args.bytes.now) c.in-Lpcm.is c.requires.whole in
    subst (λ (z : ℤ). unsigned_abs z ≤ 2 ^ 31) (sym (c.read_lpcm.ensures.samples k n there within)) (sample_small c.args.bytes.now c.in-Lpcm.little c.in-Lpcm.depth rows.channels rows.length n k whole.0 whole.1 within there)
