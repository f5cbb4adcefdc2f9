use Rattle.std.proofs.Common.{sym, ◌∙◌}
use Rattle.spec_play.specs.declared.fault.PlayFault.TheVariants.{Recon, NoDemix, DemixReserved}
use Rattle.spec_play.specs.Selection.{tests}
use Rattle.iamf_select.specs.CandidateView.{heard}
use Rattle.iamf_select.proofs.FirstFaults.{row_passes, row_refuses, first_later, first_here}
use Rattle.iamf_select.proofs.selection.layer_fault.Goals as goal

pub returns-then-some_element : goal.returns-then-some_element
returns-then-some_element c =
    let rows = tests (heard c.args.candidate.now) in
    sym (first_here rows 4 Recon (row_refuses Recon (sym c.some_element.ensures ∙ c.if-some_element.true)))

pub returns-then-some_element-2 : goal.returns-then-some_element-2
returns-then-some_element-2 c =
    let rows = tests (heard c.args.candidate.now) in
    sym
    (first_later rows 4 (row_passes Recon (sym c.some_element.ensures ∙ c.if-some_element.false))
    ∙ first_here rows 5 NoDemix (row_refuses NoDemix (sym c.some_element-2.ensures ∙ c.if-some_element-2.true)))

pub returns-then-some_element-3 : goal.returns-then-some_element-3
returns-then-some_element-3 c =
    let rows = tests (heard c.args.candidate.now) in
    sym
    (first_later rows 4 (row_passes Recon (sym c.some_element.ensures ∙ c.if-some_element.false))
    ∙ first_later rows 5 (row_passes NoDemix (sym c.some_element-2.ensures ∙ c.if-some_element-2.false))
    ∙ first_here rows 6 DemixReserved (row_refuses DemixReserved (sym c.some_element-3.ensures ∙ c.if-some_element-3.true)))

pub returns : goal.returns
returns c =
    let rows = tests (heard c.args.candidate.now) in
    c.gain_fault.ensures
    ∙ sym
    (first_later rows 4 (row_passes Recon (sym c.some_element.ensures ∙ c.if-some_element.false))
    ∙ first_later rows 5 (row_passes NoDemix (sym c.some_element-2.ensures ∙ c.if-some_element-2.false))
    ∙ first_later rows 6 (row_passes DemixReserved (sym c.some_element-3.ensures ∙ c.if-some_element-3.false)))
