use Rattle.spec_values.proofs.Payloads.{exact_payload}
use Rattle.spec_values.proofs.laws.one_payload.Goals as goal

pub returns : goal.returns
returns c = exact_payload
