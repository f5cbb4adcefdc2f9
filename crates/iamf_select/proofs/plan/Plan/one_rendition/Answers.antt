use Rattle.std.proofs.Common.{subst}
use Rattle.iamf_select.specs.CandidateView.{heard}
use Rattle.iamf_select.specs.PlanView.{PlanValue, IsSelected}
use Rattle.iamf_select.proofs.Plans.{one_rendition, plan_is_playable}
use Rattle.iamf_select.proofs.plan.Plan.one_rendition.Goals as goal

pub returns : goal.returns
returns c =
    let r = heard c.self.inside.candidate in
    let selected = subst (λ (p : PlanValue). IsSelected p r) c.self.view_is c.self.invariant in
    (r, selected, plan_is_playable c.args.self.now r selected, λ q other. one_rendition c.args.self.now r q selected other)
