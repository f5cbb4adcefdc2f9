use Rattle.std.proofs.Common.{◌∙◌, ap}
use Rattle.spec_obu.specs.Listing.{mark}
use Rattle.obu_header.specs.View.{head_of}
use Rattle.iamf_tool.proofs.Lines.{line_is, is_some-copied}
use Rattle.iamf_tool.proofs.listing.push_line.Goals as goal

pub returns : goal.returns
returns c =
    line_is c.args.text.now.items c.push_number.new.text.items c.push_number-2.new.text.items c.push_number-3.new.text.items c.extend_from_slice.new.self.items
    c.args.obu.now.at _ _ _ _ (head_of c.args.obu.now.head) c.in_ok-push_number.ensures (rw c.from.ensures at c.in_ok-push_number-2.ensures) c.in_ok-push_number-3.ensures
    c.mark-redundant.ensures (c.mark-trimmed.ensures ∙ ap (mark 116) c.is_some.ensures) (c.mark-extended.ensures ∙ ap (mark 120) (c.is_some-2.ensures ∙ is_some-copied c.args.obu.now.head.extension))
    c.in_ok-extend_from_slice.ensures.items
