use Rattle.std.proofs.Common.{sym, ◌∙◌}
use Rattle.spec_play.specs.declared.fault.PlayFault.TheVariants.{MixShape, NoLayer, SceneTarget, UnknownElement}
use Rattle.spec_play.specs.Selection.{tests, rendition_fault}
use Rattle.iamf_select.specs.CandidateView.{heard}
use Rattle.iamf_select.proofs.FirstFaults.{row_passes, row_refuses, first_later, first_here}
use Rattle.iamf_select.proofs.selection.fault_of.Goals as goal

pub returns-then-has_other_shape : goal.returns-then-has_other_shape
unfolding rendition_fault
returns-then-has_other_shape c =
    let rows = tests (heard c.args.candidate.now) in
    sym (first_here rows 0 MixShape (row_refuses MixShape (sym c.has_other_shape.ensures ∙ c.if-has_other_shape.true)))

pub returns-then-some_element : goal.returns-then-some_element
unfolding rendition_fault
returns-then-some_element c =
    let rows = tests (heard c.args.candidate.now) in
    sym
    (first_later rows 0 (row_passes MixShape (sym c.has_other_shape.ensures ∙ c.if-has_other_shape.false))
    ∙ first_here rows 1 NoLayer (row_refuses NoLayer (sym c.some_element.ensures ∙ c.if-some_element.true)))

pub returns-then-some_other_kind : goal.returns-then-some_other_kind
unfolding rendition_fault
returns-then-some_other_kind c =
    let rows = tests (heard c.args.candidate.now) in
    sym
    (first_later rows 0 (row_passes MixShape (sym c.has_other_shape.ensures ∙ c.if-has_other_shape.false))
    ∙ first_later rows 1 (row_passes NoLayer (sym c.some_element.ensures ∙ c.if-some_element.false))
    ∙ first_here rows 2 SceneTarget (row_refuses SceneTarget (sym c.some_other_kind.ensures ∙ c.if-some_other_kind.true)))

pub returns-then-some_element-2 : goal.returns-then-some_element-2
unfolding rendition_fault
returns-then-some_element-2 c =
    let rows = tests (heard c.args.candidate.now) in
    sym
    (first_later rows 0 (row_passes MixShape (sym c.has_other_shape.ensures ∙ c.if-has_other_shape.false))
    ∙ first_later rows 1 (row_passes NoLayer (sym c.some_element.ensures ∙ c.if-some_element.false))
    ∙ first_later rows 2 (row_passes SceneTarget (sym c.some_other_kind.ensures ∙ c.if-some_other_kind.false))
    ∙ first_here rows 3 UnknownElement (row_refuses UnknownElement (sym c.some_element-2.ensures ∙ c.if-some_element-2.true)))

pub returns : goal.returns
unfolding rendition_fault
returns c =
    let rows = tests (heard c.args.candidate.now) in
    c.layer_fault.ensures
    ∙ sym
    (first_later rows 0 (row_passes MixShape (sym c.has_other_shape.ensures ∙ c.if-has_other_shape.false))
    ∙ first_later rows 1 (row_passes NoLayer (sym c.some_element.ensures ∙ c.if-some_element.false))
    ∙ first_later rows 2 (row_passes SceneTarget (sym c.some_other_kind.ensures ∙ c.if-some_other_kind.false))
    ∙ first_later rows 3 (row_passes UnknownElement (sym c.some_element-2.ensures ∙ c.if-some_element-2.false)))
