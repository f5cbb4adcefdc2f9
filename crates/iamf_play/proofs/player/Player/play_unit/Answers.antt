use Rattle.std.proofs.Common.{arith, ◌≡◌, ◌-◌, refl, sym, ap, subst, ◌∙◌}
use Rattle.spec_play.specs.Playing.{unit_bytes}
use Rattle.iamf_select.specs.PlanView.{IsSelected}
use Rattle.iamf_play.specs.Playback.{PlayerValue}
use Rattle.iamf_play.proofs.player.Player.play_unit.Goals as goal

pub returns : goal.returns
returns c = (
  (refl, (λ v. tt), c.play.ensures),
  record {
    ends = tt;
    bytes = λ r is.
        let e = c.play.ensures in
        let same : c.play.new.self.played - 1 ≡ c.args.u = omega (arith, ap (λ (v : PlayerValue). v.played) e) in
        c.bytes.ensures r (subst (λ (v : PlayerValue). IsSelected v.plan r) (sym e) is) ∙ ap (unit_bytes r) same;
  },
)
