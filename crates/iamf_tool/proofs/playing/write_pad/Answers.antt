use Rattle.std.proofs.Common.{◌≡◌, ◌∷◌, [], ℕ, sym, subst, arith}
use Rattle.std.specs.Prelude.{replicate}
use Rattle.spec_waves.specs.Wave.{pad}
use Rattle.spec_play.specs.Waves.{wave_shape}
use Rattle.iamf_tool.specs.Ends.{side, Writes}
use Rattle.iamf_tool.proofs.Pieces.{all_written}
use Rattle.iamf_tool.proofs.playing.write_pad.Goals as goal

pub returns : goal.returns
returns g c = λ r selected.
    let one : pad (wave_shape r) ≡ 1 = omega (arith, c.pad.ensures r selected, c.if-pad-eq0.false) in
    subst (λ (k : ℕ). Writes c.write_all.result (replicate k 0) (side g.W.Sink.held g.W.Sink.faults c.args.out.now c.write_all.new.sink)) (sym one)
    (all_written c.write_all.result (g.W.Sink.held c.args.out.now) (g.W.Sink.held c.write_all.new.sink) (g.W.Sink.faults c.args.out.now) (g.W.Sink.faults c.write_all.new.sink) (0 ∷ []) c.write_all.ensures.all c.write_all.ensures.front
    c.write_all.ensures.cause)
