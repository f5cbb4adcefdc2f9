use Rattle.std.proofs.Common.{◌≡◌, ◌++◌, take}
use Rattle.std.specs.List.{flat_map}
use Rattle.iamf_report.specs.Text.{element_text}
use Rattle.iamf_report.proofs.print.push_elements.Given as goal

abbrev pub invariant-loop-element : goal.invariant-loop-element
invariant-loop-element l = l.text.items ≡ l.fn.text.items ++ flat_map element_text (take l.element-index l.elements)
