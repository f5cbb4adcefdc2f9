use Rattle.std.proofs.Common.{refl, arith}
use Rattle.iamf_mux.proofs.FirstFrames.{begins_unit}
use Rattle.iamf_mux.proofs.numbers.Starts.begin.Goals as goal

pub returns-then-unit-self-clause-begun : goal.returns-then-unit-self-clause-begun
returns-then-unit-self-clause-begun c = λ us are. begins_unit c.args.self.now _ c.args.unit us are (omega (arith, c.if-unit-self.true)) refl refl refl
