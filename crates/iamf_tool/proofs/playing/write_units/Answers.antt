use Rattle.std.proofs.Common.{◌≡◌, ◌<◌, ◌+◌, ◌-◌, ℕ, List, length, sym, subst, ap, ◌∙◌, arith}
use Rattle.std.specs.List.{flat_map, range_with_len}
use Rattle.iamf_io.specs.Whole.{AppendsFront}
use Rattle.std.specs.Io.KnownBytes.{Appends}
use Rattle.spec_play.specs.Playing.{unit_bytes}
use Rattle.iamf_select.specs.PlanView.{PlanValue, IsSelected}
use Rattle.iamf_play.specs.Playback.{PlayerValue}
use Rattle.iamf_tool.specs.Ends.{side, Wrote}
use Rattle.iamf_tool.proofs.Pieces.{unit_wrote, unit_failed}
use Rattle.iamf_tool.proofs.playing.write_units.Goals as goal

pub returns-in-Err-clause-wrote : goal.returns-in-Err-clause-wrote
returns-in-Err-clause-wrote g c = λ r selected.
    let there : c.loop-u.u < length r.units = omega (arith, c.unit_count-u-end.ensures r selected, c.loop-u-test.true) in
    let same : c.play.new.self.plan ≡ c.args.player.now.plan = ap (λ (p : PlayerValue). p.plan) c.play.ensures ∙ c.loop-u.invariant.plan in
    let last : c.play.new.self.played - 1 ≡ c.loop-u.u = omega (arith, ap (λ (p : PlayerValue). p.played) c.play.ensures) in
    let still : IsSelected c.play.new.self.plan r = subst (λ (p : PlanValue). IsSelected p r) (sym same) selected in
    let bytes : c.bytes.result.now ≡ unit_bytes r c.loop-u.u = c.bytes.ensures r still ∙ ap (unit_bytes r) last in
    unit_failed (unit_bytes r) c.loop-u.u (length r.units) (g.W.Sink.held c.args.out.now) (g.W.Sink.held c.loop-u.out) (g.W.Sink.held c.write_all.new.sink) (g.W.Sink.faults c.args.out.now) (g.W.Sink.faults c.loop-u.out)
    (g.W.Sink.faults c.write_all.new.sink) there (c.loop-u.invariant.wrote r selected)
    (record { grown = subst (λ (xs : List ℕ). AppendsFront (g.W.Sink.held c.loop-u.out) (g.W.Sink.held c.write_all.new.sink) xs) bytes c.in-Err.ensures.front; rose = c.in-Err.ensures.cause.failed })

pub loop-u-preserved : goal.loop-u-preserved
loop-u-preserved g c =
    let same : c.play.new.self.plan ≡ c.args.player.now.plan = ap (λ (p : PlayerValue). p.plan) c.play.ensures ∙ c.loop-u.invariant.plan in
    let last : c.play.new.self.played - 1 ≡ c.loop-u.u = omega (arith, ap (λ (p : PlayerValue). p.played) c.play.ensures) in
    record {
      plan = same;
      played = ap (λ (p : PlayerValue). p.played) c.play.ensures;
      wrote = λ r selected.
          let still : IsSelected c.play.new.self.plan r = subst (λ (p : PlanValue). IsSelected p r) (sym same) selected in
          let bytes : c.bytes.result.now ≡ unit_bytes r c.loop-u.u = c.bytes.ensures r still ∙ ap (unit_bytes r) last in
          unit_wrote (unit_bytes r) c.loop-u.u (g.W.Sink.held c.args.out.now) (g.W.Sink.held c.loop-u.out) (g.W.Sink.held c.write_all.new.sink) (g.W.Sink.faults c.args.out.now) (g.W.Sink.faults c.loop-u.out)
          (g.W.Sink.faults c.write_all.new.sink) (c.loop-u.invariant.wrote r selected)
          (record { grown = subst (λ (xs : List ℕ). Appends (g.W.Sink.held c.loop-u.out) (g.W.Sink.held c.write_all.new.sink) xs) bytes c.in-Ok.ensures.all; same = c.in-Ok.ensures.cause.kept });
    }

pub returns-clause-wrote : goal.returns-clause-wrote
returns-clause-wrote g c = λ r selected.
    let all : c.loop-u.u ≡ length r.units = omega (arith, c.unit_count-u-end.ensures r selected, c.loop-u.auto.u-end, c.loop-u-test.false) in
    subst (λ (k : ℕ). Wrote (side g.W.Sink.held g.W.Sink.faults c.args.out.now c.loop-u.out) (flat_map (unit_bytes r) (range_with_len 0 k))) all (c.loop-u.invariant.wrote r selected)
