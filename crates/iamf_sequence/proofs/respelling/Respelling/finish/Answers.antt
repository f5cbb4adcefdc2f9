use Rattle.std.proofs.Common.{arith}
use Rattle.iamf_sequence.specs.PartBytes.{bytes_of}
use Rattle.iamf_sequence.proofs.PartsJoined.{finished}
use Rattle.iamf_sequence.proofs.respelling.Respelling.finish.Goals as goal

pub close-requires-clause-onward : goal.close-requires-clause-onward
close-requires-clause-onward c = let r = c.requires.1 in omega (arith, r.onward, r.place)

pub close-requires-clause-within : goal.close-requires-clause-within
close-requires-clause-within c = let r = c.requires.1 in omega (arith, r.place)

pub returns : goal.returns
returns c = λ l is.
    finished (bytes_of c.args.self.parts.items) (bytes_of c.close.new.self.parts.items) c.new.result.items c.args.self.buffer.now c.args.self.start c.args.self.end _ l is.spelled is.place c.in_ok-close.ensures.closed c.new.ensures.items
