use Rattle.std.proofs.Common.{sym, ap, ◌∙◌}
use Rattle.spec_rules.specs.Units.{unit_count}
use Rattle.spec_sequence.specs.Reading.{roles}
use Rattle.iamf_sequence.specs.SequenceValue.{SequenceValue}
use Rattle.iamf_play.specs.Playback.{PlayerValue}
use Rattle.iamf_play.proofs.Renditions.{unit_count_is}
use Rattle.iamf_play.proofs.player.Player.unit_count.Goals as goal

pub returns : goal.returns
returns c = λ r is.
    let p = c.args.self.now.plan in
    c.unit_count.ensures ∙ ap (λ (s : SequenceValue). unit_count (roles s.entries)) (c.sequence.ensures ∙ ap (λ (v : PlayerValue). v.plan.sequence) c.self.view_is) ∙ sym (unit_count_is p.sequence.entries p.mix p.target r is.heard_is)
