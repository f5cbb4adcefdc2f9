use Rattle.std.proofs.Common.{sym, ◌∙◌}
use Rattle.spec_play.specs.declared.fault.PlayFault.TheVariants.{ParamRate, Bezier, GainRange, WavTooLong}
use Rattle.spec_play.specs.Selection.{tests}
use Rattle.iamf_select.specs.CandidateView.{heard}
use Rattle.iamf_select.proofs.FirstFaults.{row_passes, row_refuses, first_later, first_here}
use Rattle.iamf_select.proofs.selection.gain_fault.Goals as goal

pub returns-then-some_other_rate : goal.returns-then-some_other_rate
returns-then-some_other_rate c =
    let rows = tests (heard c.args.candidate.now) in
    sym (first_here rows 7 ParamRate (row_refuses ParamRate (sym c.some_other_rate.ensures ∙ c.if-some_other_rate.true)))

pub returns-then-some_bezier : goal.returns-then-some_bezier
returns-then-some_bezier c =
    let rows = tests (heard c.args.candidate.now) in
    sym
    (first_later rows 7 (row_passes ParamRate (sym c.some_other_rate.ensures ∙ c.if-some_other_rate.false))
    ∙ first_here rows 8 Bezier (row_refuses Bezier (sym c.some_bezier.ensures ∙ c.if-some_bezier.true)))

pub returns-then-some_high : goal.returns-then-some_high
returns-then-some_high c =
    let rows = tests (heard c.args.candidate.now) in
    sym
    (first_later rows 7 (row_passes ParamRate (sym c.some_other_rate.ensures ∙ c.if-some_other_rate.false))
    ∙ first_later rows 8 (row_passes Bezier (sym c.some_bezier.ensures ∙ c.if-some_bezier.false))
    ∙ first_here rows 9 GainRange (row_refuses GainRange (sym c.some_high.ensures ∙ c.if-some_high.true)))

pub returns-then-is_long : goal.returns-then-is_long
returns-then-is_long c =
    let rows = tests (heard c.args.candidate.now) in
    sym
    (first_later rows 7 (row_passes ParamRate (sym c.some_other_rate.ensures ∙ c.if-some_other_rate.false))
    ∙ first_later rows 8 (row_passes Bezier (sym c.some_bezier.ensures ∙ c.if-some_bezier.false))
    ∙ first_later rows 9 (row_passes GainRange (sym c.some_high.ensures ∙ c.if-some_high.false))
    ∙ first_here rows 10 WavTooLong (row_refuses WavTooLong (sym c.is_long.ensures ∙ c.if-is_long.true)))

pub returns : goal.returns
returns c =
    let rows = tests (heard c.args.candidate.now) in
    sym
    (first_later rows 7 (row_passes ParamRate (sym c.some_other_rate.ensures ∙ c.if-some_other_rate.false))
    ∙ first_later rows 8 (row_passes Bezier (sym c.some_bezier.ensures ∙ c.if-some_bezier.false))
    ∙ first_later rows 9 (row_passes GainRange (sym c.some_high.ensures ∙ c.if-some_high.false))
    ∙ first_later rows 10 (row_passes WavTooLong (sym c.is_long.ensures ∙ c.if-is_long.false)))
