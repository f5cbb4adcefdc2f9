use Rattle.std.proofs.Common.{ℕ, List, refl, sym, subst, arith}
use Rattle.iamf_stream.specs.Standing.{Passed}
use Rattle.iamf_stream.specs.Steps.{WalksOver}
use Rattle.iamf_stream.proofs.Pieces.{stands_after, place_fits}
use Rattle.iamf_stream.proofs.open.Open.look.Goals as goal

pub overflow_add-self : goal.overflow_add-self
overflow_add-self c = omega (arith, place_fits _ _ _ _ _ (c.in-Ok.ensures.walks c.requires.0 (rw c.as_slice.ensures c.requires.1)), c.requires.2)

pub returns : goal.returns
returns c = λ stream p.
    let passed : Passed c.args.self.now.admission c.args.self.now.passed c.as_slice.result.now stream = rw c.as_slice.ensures p in
    let walks : WalksOver c.walk.new.admission c.in-Ok.walked c.args.self.now.passed c.args.self.now.waiting.items stream =
    subst (λ (b : List ℕ). WalksOver c.walk.new.admission c.in-Ok.walked c.args.self.now.passed b stream) c.as_slice.ensures (c.in-Ok.ensures.walks stream passed) in
    stands_after _ c.in-Ok.walked _ c.args.self.now.waiting.items stream walks refl c.advance.ensures.items refl
