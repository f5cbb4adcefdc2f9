use Rattle.std.proofs.Common.{sym, subst}
use Rattle.spec_sequence.proofs.Roles.{values_more}
use Rattle.iamf_sequence.specs.declared.draft.Draft.{Draft}
use Rattle.iamf_sequence.specs.ContentsView.{AreContents}
use Rattle.iamf_sequence.proofs.Advancing.{placed_more}
use Rattle.iamf_sequence.proofs.draft.DraftGather.take.Goals as goal

pub returns : goal.returns
returns c = λ bytes at l e is one.
    let new : Draft = record { contents = c.keep.new.self; obus = c.push.new.self } in
    let contents = c.in_ok-keep.ensures l e is.contents one.admitted one.next.taken.says one.next.taken.unit in
    placed_more bytes at c.args.self.now new c.args.view.now c.args.obu l e is one.next c.in_ok-push.ensures.items (subst (AreContents c.keep.new.self) (sym (values_more l e)) contents)
