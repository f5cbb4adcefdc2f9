use Rattle.std.proofs.Common.{◌≡◌, refl, sym, ap, subst}
use Rattle.std.proofs.KnownBytes.{Keeps-refl}
use Rattle.iamf_tool.specs.declared.command.Command.TheVariants as given
use Rattle.iamf_tool.specs.declared.status.Status.{Status}
use Rattle.iamf_select.specs.PlanView.{PlanValue, IsSelected}
use Rattle.iamf_play.specs.Playback.{PlayerValue}
use Rattle.iamf_tool.specs.Ends.{side, Concludes}
use Rattle.iamf_tool.proofs.Played.{is_played, is_cut_off}
use Rattle.iamf_tool.proofs.playing.play_plan.Goals as goal

pub returns-in-Ok-write_wave : goal.returns-in-Ok-write_wave
returns-in-Ok-write_wave g c =
    let one = c.one_rendition.ensures in
    let same : c.in-Ok.player.plan ≡ c.args.plan = ap (λ (p : PlayerValue). p.plan) c.in-Ok.ensures in
    let still : IsSelected c.in-Ok.player.plan one.0 = subst (λ (p : PlanValue). IsSelected p one.0) (sym same) one.1 in
    is_played c.args.plan one.0 (side g.W.Sink.held g.W.Sink.faults c.args.out.now c.write_wave.new.out) (side g.N.Sink.held g.N.Sink.faults c.args.notes.now c.args.notes.now) one.1 one.2 (c.in-Ok-write_wave.ensures one.0 still)
    (record { kept = Keeps-refl (g.N.Sink.held c.args.notes.now); same = refl })

pub returns : goal.returns
returns g c =
    let one = c.one_rendition.ensures in
    let same : c.in-Ok.player.plan ≡ c.args.plan = ap (λ (p : PlayerValue). p.plan) c.in-Ok.ensures in
    let still : IsSelected c.in-Ok.player.plan one.0 = subst (λ (p : PlanValue). IsSelected p one.0) (sym same) one.1 in
    let out = side g.W.Sink.held g.W.Sink.faults c.args.out.now c.write_wave.new.out in
    let notes = side g.N.Sink.held g.N.Sink.faults c.args.notes.now c.ended-in-Err-write_wave.new.notes in
    subst (λ (status : Status). Concludes status (given.Play c.args.plan.mix c.args.plan.target) c.args.plan.sequence.bytes out notes) (sym c.ended-in-Err-write_wave.ensures.same)
    (is_cut_off c.args.plan one.0 out notes one.1 one.2 (c.in-Err-write_wave.ensures one.0 still) c.ended-in-Err-write_wave.ensures.noted)
