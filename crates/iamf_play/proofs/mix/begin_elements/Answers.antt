use Rattle.std.proofs.Common.{arith}
use Rattle.std.proofs.lemmas.Option.{slice_get-get_or}
use Rattle.iamf_play.proofs.ElementWalks.{partly_none, partly_more, partly_all, partly_here}
use Rattle.iamf_play.proofs.mix.begin_elements.Goals as goal

pub loop-element-init : goal.loop-element-init
loop-element-init c = λ r parts. partly_none c.args.sequence.now r c.args.u c.args.elements.now parts

pub begin-requires-clause-part : goal.begin-requires-clause-part
begin-requires-clause-part c =
    let given = c.requires.parts in
    let here = partly_here c.args.sequence.now given.0 c.args.u c.loop-element.element-index c.loop-element.elements c.element-item.result (c.loop-element.invariant given.0 given.1) (omega arith) in
    (given.0, here.0, here.2, given.2)

pub loop-element-preserved : goal.loop-element-preserved
loop-element-preserved c = λ r parts.
    let are = c.loop-element.invariant r parts in
    let i = c.loop-element.element-index in
    partly_more c.args.sequence.now r c.args.u i c.loop-element.elements c.begin.new.self are
    (λ m there. c.begin.ensures r m (are.after i m _ (omega arith) there (slice_get-get_or c.loop-element.elements i c.element-item.result (omega arith))))

pub returns : goal.returns
returns c = λ r parts. partly_all c.args.sequence.now r c.args.u c.loop-element.element-index c.loop-element.elements (omega arith) (c.loop-element.invariant r parts)
