use Rattle.std.proofs.Common.{◌∙◌}
use Rattle.iamf_sequence.specs.UnitView.{opened}
use Rattle.iamf_mux.proofs.FirstFrames.{puts_none}
use Rattle.iamf_mux.proofs.numbers.Starts.add.Goals as goal

pub returns-in_default-clause-added : goal.returns-in_default-clause-added
returns-in_default-clause-added c = λ us fs change are is adds. puts_none c.begin.new.self (opened c.args.unit us) fs change (c.begin.ensures.begun us are) (is ∙ c.in_default.is) adds
