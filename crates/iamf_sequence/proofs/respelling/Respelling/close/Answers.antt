use Rattle.std.proofs.Common.{ap, ◌∙◌}
use Rattle.iamf_sequence.specs.PartBytes.{bytes_of}
use Rattle.iamf_sequence.proofs.PartsJoined.{part_last}
use Rattle.iamf_sequence.proofs.respelling.Respelling.close.Goals as goal

pub returns-clause-closed : goal.returns-clause-closed
returns-clause-closed c = ap bytes_of c.in_ok-push.ensures.items ∙ part_last c.args.self.now.parts.items _
