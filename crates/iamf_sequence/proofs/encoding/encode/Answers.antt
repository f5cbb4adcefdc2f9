use Rattle.std.proofs.Common.{ap, ◌∙◌}
use Rattle.spec_values.specs.Canonical.{encoded}
use Rattle.iamf_sequence.proofs.ReadAgain.{same_values, only_memory}
use Rattle.iamf_sequence.proofs.encoding.encode.Goals as goal

pub memory-requires : goal.memory-requires
memory-requires c = only_memory c.bytes.result.now c.args.sequence.now.entries c.in-Err.error c.bytes.ensures.reads c.in-Err.ensures.refused

pub returns-in-Ok : goal.returns-in-Ok
returns-in-Ok c =
    let r = c.in-Ok.ensures.respells in
    r.2 ∙ ap encoded (same_values c.bytes.result.now c.args.sequence.now.entries r.0 c.bytes.ensures.reads r.1)
