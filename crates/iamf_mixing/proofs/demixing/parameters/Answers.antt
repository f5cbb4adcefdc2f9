use Rattle.std.proofs.Common.{sym}
use Rattle.iamf_mixing.proofs.demixing.parameters.Goals as goal

pub returns-in-Some-clause-mode : goal.returns-in-Some-clause-mode
returns-in-Some-clause-mode c = (c.args.code, sym c.in-Some.ensures.value)
