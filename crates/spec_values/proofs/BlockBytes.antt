-- The fields of parameter blocks, and the ids of audio frames, fill whole bytes.
use Rattle.std.proofs.Common.{ℕ, List, [], refl}
use Rattle.std.specs.Prelude.{Option, Some, None}
use Rattle.spec_syntax.specs.Syntax.{each}
use Rattle.spec_descriptors.specs.ParameterDefinition.{FixedFields}
use Rattle.spec_blocks.specs.Shape.{Shape, MixGain, Demixing, ReconGain, Definition, shape_of}
use Rattle.spec_blocks.specs.ParameterBlock.{gain_part, gain_in, subblocks_in, subblocks_of, timed_gain, timed_gain_in, timed_gains, constant_gains, own_gains, defined_gains, gains, demixing, ones_below, recon_part, recon_in, recon_gains, content_of, parameter_block}
use Rattle.spec_blocks.specs.AudioFrame.{audio_frame}
use Rattle.spec_values.proofs.WholeBytes.{FillsBytes, fills_bind, fills_each}

gain_fills : FillsBytes 0 gain_part
unfolding gain_part
gain_fills = λ animation start. (refl, λ last. (refl, λ control time. refl))

timed_gain_fills : FillsBytes 0 timed_gain
unfolding timed_gain
timed_gain_fills = λ duration. fills_bind 0 gain_part _ refl gain_fills (λ gain. refl)

timed_gains_fills : (duration : ℕ) → FillsBytes 0 (timed_gains duration)
unfolding timed_gains
timed_gains_fills duration = λ count. fills_bind 0 (each count timed_gain_in []) _ refl (fills_each timed_gain_in (λ m before. timed_gain_fills) count []) (λ timed. refl)

constant_gains_fills : (duration constant : ℕ) → FillsBytes 0 (constant_gains duration constant)
unfolding constant_gains
constant_gains_fills duration constant = fills_bind 0 (each (subblocks_in duration constant) gain_in []) _ refl (fills_each gain_in (λ m before. gain_fills) (subblocks_in duration constant) []) (λ values. refl)

gains_fills : (fixed : Option FixedFields) → FillsBytes 0 (gains fixed)
unfolding own_gains defined_gains
gains_fills None = λ duration constant. (timed_gains_fills duration, constant_gains_fills duration constant)
gains_fills (Some fixed) = fills_bind 0 (each (subblocks_of fixed) gain_in []) _ refl (fills_each gain_in (λ m before. gain_fills) (subblocks_of fixed) []) (λ values. refl)

recon_fills : (layers flags : ℕ) → FillsBytes 0 (recon_gains layers flags)
unfolding recon_gains recon_part
recon_fills layers flags = fills_bind 0 (each (ones_below layers flags) recon_in []) _ refl (fills_each recon_in (λ m before part_flags values. refl) (ones_below layers flags) []) (λ parts. refl)

content_fills : (shape : Option Shape) → FillsBytes 0 (content_of shape)
unfolding demixing
content_fills None = refl
content_fills (Some (MixGain rate fixed)) = gains_fills fixed
content_fills (Some (Demixing rate fixed)) = λ mode reserved. refl
content_fills (Some (ReconGain rate fixed layers flags)) = recon_fills layers flags

pub parameter_block_fills : (definitions : List Definition) → FillsBytes 0 (parameter_block definitions)
unfolding parameter_block
parameter_block_fills definitions = λ id. fills_bind 0 (content_of (shape_of definitions id)) _ refl (content_fills (shape_of definitions id)) (λ content. refl)

pub audio_frame_fills : (obu_type : ℕ) → FillsBytes 0 (audio_frame obu_type)
unfolding audio_frame
audio_frame_fills obu_type = (λ substream. refl, refl)
