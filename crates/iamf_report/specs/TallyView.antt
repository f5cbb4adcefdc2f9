-- What a tally stands for.
use Rattle.std.specs.Prelude.{List}
use Rattle.spec_values.specs.Value.{ObuValue}
use Rattle.iamf_report.specs.Standing.{AreLines}
use Rattle.iamf_report.specs.declared.tally.Tally.{Tally}

abbrev pub Stands : Tally → List ObuValue → Type 0
Stands t s = AreLines t.lines s
