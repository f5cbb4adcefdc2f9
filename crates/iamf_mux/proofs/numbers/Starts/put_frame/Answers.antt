use Rattle.std.proofs.Common.{◌+◌, refl, ap}
use Rattle.iamf_mux.proofs.FirstFrames.{puts_first, puts_next}
use Rattle.iamf_mux.proofs.numbers.Starts.put_frame.Goals as goal

pub returns-then-not-self-clause-put : goal.returns-then-not-self-clause-put
returns-then-not-self-clause-put c = λ us fs change are is adds.
    puts_first c.args.self.now _ c.args.start us fs change are c.requires.some c.if-not-self.true is adds refl (ap (λ n. c.args.self.now.trimmed + n) c.from.ensures) refl

pub returns-else-not-self-clause-put : goal.returns-else-not-self-clause-put
returns-else-not-self-clause-put c = λ us fs change are is adds. puts_next c.args.self.now c.args.start us fs change are c.if-not-self.false is adds
