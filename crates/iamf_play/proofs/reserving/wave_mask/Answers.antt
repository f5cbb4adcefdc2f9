use Rattle.std.proofs.Common.{ap, ◌∙◌}
use Rattle.spec_play.specs.declared.target.Target.TheVariants as target
use Rattle.iamf_play.proofs.reserving.wave_mask.Goals as goal

pub channel_mask-requires : goal.channel_mask-requires
channel_mask-requires c = λ e. c.requires (c.in-Layer.is ∙ ap (λ l. target.Layer l) e)
