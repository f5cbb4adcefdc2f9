use Rattle.iamf_play.proofs.UnitsAreFew.{few_units}
use Rattle.iamf_play.proofs.reserving.few_units.Goals as goal

pub returns : goal.returns
returns c = few_units c.bytes-bytes.result.now c.args.sequence.now.entries c.bytes-bytes.ensures.reads c.bytes-bytes.ensures.short
