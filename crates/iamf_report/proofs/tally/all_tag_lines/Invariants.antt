use Rattle.std.proofs.Common.{◌≡◌, map, take}
use Rattle.obu_mix.specs.TagView as given
use Rattle.iamf_report.specs.LinesView.{view_tag}
use Rattle.iamf_report.proofs.tally.all_tag_lines.Given as goal

abbrev pub invariant-loop-tag : goal.invariant-loop-tag
invariant-loop-tag l = map view_tag l.lines.items ≡ map given.view_tag (take l.tag-index l.tags)
