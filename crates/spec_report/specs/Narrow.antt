-- The report by the rules without the wide profile.
use Rattle.std.specs.Prelude.{List, ℕ, ◌++◌}
use Rattle.spec_values.specs.Value.{ObuValue}
use Rattle.spec_rules.specs.Role.{Role}
use Rattle.spec_sequence.specs.ValueRole.{mix_role}
use Rattle.spec_sequence.specs.Parts.{roles_of, MixValue}
use Rattle.spec_sequence.specs.Narrow.{fits_narrowly}
use Rattle.spec_report.specs.Report.{marked_line, tag_lines, report_with}

abbrev pub narrow_mix_lines : List Role → MixValue → List ℕ
narrow_mix_lines l m = marked_line (fits_narrowly l (mix_role m.fields)) m.fields ++ tag_lines m.tail

unfoldable pub narrow_report : List ObuValue → List ℕ
narrow_report s = report_with (narrow_mix_lines (roles_of s)) s
