use Rattle.std.proofs.Common.{subst, refl, ap, ◌∙◌}
use Rattle.std.specs.Prelude.{slice_get}
use Rattle.spec_play.specs.Mixes.{Rendition}
use Rattle.iamf_select.specs.CandidateView.{heard, view_heard}
use Rattle.iamf_select.specs.PlanView.{PlanValue, IsSelected}
use Rattle.iamf_select.proofs.Plans.{one_rendition}
use Rattle.iamf_select.proofs.plan.Plan.element_gain.Goals as goal

pub heard_at-requires : goal.heard_at-requires
heard_at-requires c =
    let r = heard c.self.inside.candidate in
    c.requires r (subst (λ (p : PlanValue). IsSelected p r) c.self.view_is c.self.invariant)

pub returns : goal.returns
returns c = λ r selected.
    let own = heard c.self.inside.candidate in
    let same = one_rendition c.args.self.now own r (subst (λ (p : PlanValue). IsSelected p own) c.self.view_is c.self.invariant) selected in
    (view_heard c.heard_at.result, ap (λ (q : Rendition). slice_get q.elements c.args.i) same ∙ c.heard_at.ensures.is, refl)
