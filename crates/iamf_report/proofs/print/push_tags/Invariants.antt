use Rattle.std.proofs.Common.{◌≡◌, ◌++◌, take}
use Rattle.std.specs.List.{flat_map}
use Rattle.iamf_report.specs.LinesView.{view_tag}
use Rattle.spec_report.specs.Report.{tag_line}
use Rattle.iamf_report.proofs.print.push_tags.Given as goal

abbrev pub invariant-loop-tag : goal.invariant-loop-tag
invariant-loop-tag l = l.text.items ≡ l.fn.text.items ++ flat_map (λ t. tag_line (view_tag t)) (take l.tag-index l.tags)
