use Rattle.std.proofs.Common.{refl, ap, ◌∙◌, arith}
use Rattle.iamf_sequence.specs.PartBytes.{bytes_of}
use Rattle.iamf_sequence.proofs.PartsJoined.{nothing_after}
use Rattle.iamf_sequence.proofs.respelling.Respelling.new.Goals as goal

pub returns : goal.returns
returns c = record {
  same = refl;
  place = refl;
  onward = omega arith;
  within = omega arith;
  spelled = nothing_after (bytes_of c.new.result.items) c.args.buffer.now 0 ∙ ap bytes_of c.new.ensures.items;
}
